use Rattle.std.proofs.Common.{[], ◌∷◌, ◌++◌, length, sym, ap, ◌∙◌, subst}
use Rattle.leaf_array.specs.Pairs.{IsAscending}
use Rattle.tree_nodes.specs.Content.{pairs_of}
use Rattle.tree_nodes.specs.Depth.{IsAbove}
use Rattle.tree_nodes.proofs.CopyLemmas.{upserted_behind}
use Rattle.tree_nodes.proofs.ExtendLemmas.{end_rising}
use Rattle.tree_nodes.proofs.GrowLemmas.{none_rising}
use Rattle.tree_nodes.proofs.SpotLemmas.{rising_of}
use Rattle.tree_nodes.proofs.arenas.Arenas.push_apart.Goals as goal

pub plant-requires-clause-lone : goal.plant-requires-clause-lone
plant-requires-clause-lone g c =
    let r = c.insert_pair-first.ensures in
    record {
      leaf = r.leaf;
      there = r.added.changed;
      is = r.is;
      rising = subst (IsAscending g.K.Ord.cmp) (sym r.holds) (end_rising g.K.Ord.cmp g.met.K.Ord.total c.args.key c.args.val [] (none_rising g.K.Ord.cmp) tt);
      counted = sym (ap length r.holds);
    }

pub append_pair-requires-clause-rising : goal.append_pair-requires-clause-rising
append_pair-requires-clause-rising g c =
    let s = c.spare.ensures in
    end_rising g.K.Ord.cmp g.met.K.Ord.total c.args.key c.args.val (pairs_of c.spare.new.self) (rising_of g.K.Ord.cmp g.met.K.Ord.total c.spare.new.self s.sound) (subst (IsAbove g.K.Ord.cmp c.args.key) (sym s.pairs) c.requires.above)

pub returns-in-Ok-None-clause-done : goal.returns-in-Ok-None-clause-done
returns-in-Ok-None-clause-done g c = λ r.
    let s = c.spare.ensures in
    c.put.ensures.done r
    ∙ upserted_behind g.met.K.Ord.total c.args.key c.args.val (pairs_of c.spare.new.self) (subst (IsAbove g.K.Ord.cmp c.args.key) (sym s.pairs) c.requires.above)
    ∙ ap (λ ps. ps ++ (c.args.key, c.args.val) ∷ []) s.pairs
