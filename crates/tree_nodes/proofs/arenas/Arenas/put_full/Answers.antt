use Rattle.std.proofs.Common.{sym, ap, ◌∙◌, subst, arith}
use Rattle.std.proofs.lemmas.Bool.{false≢true}
use Rattle.leaf_array.specs.Edits.{upserted}
use Rattle.leaf_array.specs.Pairs.{has_key}
use Rattle.tree_nodes.specs.Depth.{IsAbove}
use Rattle.tree_nodes.proofs.DepthLemmas.{one_more, not_back}
use Rattle.tree_nodes.proofs.arenas.Arenas.put_full.Goals as goal

-- the leaf has room, and no pair has the key, so nothing is given back
pub returns-in-Ok-clause-depth : goal.returns-in-Ok-clause-depth
returns-in-Ok-clause-depth g c some =
    absurd (not_back c.insert.result (λ full. c.insert.ensures.full full c.in-Ok.ensures.room) (λ there. false≢true (sym (ap (has_key g.K.Ord.cmp c.args.key) c.make_room.ensures.pairs ∙ c.requires.absent) ∙ c.insert.ensures.duplicate there)) some)

pub returns-in-Ok-clause-ascending_headroom : goal.returns-in-Ok-clause-ascending_headroom
returns-in-Ok-clause-ascending_headroom g c some =
    absurd (not_back c.insert.result (λ full. c.insert.ensures.full full c.in-Ok.ensures.room) (λ there. false≢true (sym (ap (has_key g.K.Ord.cmp c.args.key) c.make_room.ensures.pairs ∙ c.requires.absent) ∙ c.insert.ensures.duplicate there)) some)

pub returns-in-Ok-clause-ascending : goal.returns-in-Ok-clause-ascending
returns-in-Ok-clause-ascending g c done above =
    let kept = c.insert.ensures.ascending done (subst (IsAbove g.K.Ord.cmp c.args.key) (sym c.make_room.ensures.pairs) above) in
    one_more _ _ (λ some. omega (arith, kept, c.in-Ok.ensures.ascending above some))

pub returns-in-Ok-clause-done : goal.returns-in-Ok-clause-done
returns-in-Ok-clause-done g c done = c.insert.ensures.done done ∙ ap (upserted g.K.Ord.cmp c.args.key c.args.val) c.make_room.ensures.pairs

pub returns-in-Ok-clause-kept : goal.returns-in-Ok-clause-kept
returns-in-Ok-clause-kept g c some = c.insert.ensures.kept some ∙ c.make_room.ensures.pairs

pub returns-in-Ok-clause-duplicate : goal.returns-in-Ok-clause-duplicate
returns-in-Ok-clause-duplicate g c there = ap (has_key g.K.Ord.cmp c.args.key) (sym c.make_room.ensures.pairs) ∙ c.insert.ensures.duplicate there
