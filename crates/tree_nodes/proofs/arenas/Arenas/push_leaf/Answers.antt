use Rattle.std.proofs.Common.{◌++◌, refl, sym, ap, ◌∙◌, subst, arith}
use Rattle.slab.specs.Slab.{Slab}
use Rattle.tree_nodes.specs.declared.leaf.Leaf.{Leaf}
use Rattle.tree_nodes.specs.Content.{pairs_of}
use Rattle.tree_nodes.specs.Depth.{IsAbove}
use Rattle.tree_nodes.proofs.NodeLemmas.{roomier_sound, roomier_ascents, roomier_pairs}
use Rattle.tree_nodes.proofs.AppendLemmas.{first_above, first_taken}
use Rattle.tree_nodes.proofs.CopyLemmas.{copied_pair}
use Rattle.tree_nodes.proofs.arenas.Arenas.push_leaf.Goals as goal

pub append-requires-clause-sound : goal.append-requires-clause-sound
append-requires-clause-sound g c = roomier_sound g.K.Ord.cmp c.args.self.now c.reserve-in-Some.new.self c.args.self.now.nodes (ap (λ (s : Slab (Leaf g.row.K.Denot g.row.V.Denot)). s.slots) c.reserve-in-Some.ensures.rest_kept) refl c.requires.sound

pub append-requires-clause-rising : goal.append-requires-clause-rising
append-requires-clause-rising g c =
    let same = roomier_pairs g.K.Ord.cmp c.args.self.now c.reserve-in-Some.new.self c.args.self.now.nodes (ap (λ (s : Slab (Leaf g.row.K.Denot g.row.V.Denot)). s.slots) c.reserve-in-Some.ensures.rest_kept) refl in
    rw same c.requires.rising

pub returns-in-Some-clause-ascending : goal.returns-in-Some-clause-ascending
returns-in-Some-clause-ascending g c =
    let same = roomier_ascents g.K.Ord.cmp c.args.self.now c.reserve-in-Some.new.self c.args.self.now.nodes (ap (λ (s : Slab (Leaf g.row.K.Denot g.row.V.Denot)). s.slots) c.reserve-in-Some.ensures.rest_kept) refl in
    omega (arith, c.in_ok-append.ensures.ascending, same)

pub push-requires-clause-above : goal.push-requires-clause-above
push-requires-clause-above g c =
    subst (λ k. IsAbove g.K.Ord.cmp k (pairs_of c.args.self.now)) (sym (c.requires.keys _ _ c.in_ok-clone.ensures.cases))
    (first_above g.met.K.Ord.total (pairs_of c.args.self.now) c.args.source.now.array.pairs c.args.from c.args.count _ c.pair.ensures c.requires.some c.requires.rising)

pub returns-clause-pairs : goal.returns-clause-pairs
returns-clause-pairs g c =
    copied_pair (pairs_of c.args.self.now) (c.requires.keys _ _ c.in_ok-clone.ensures.cases) (c.requires.values _ _ c.in_ok-clone-2.ensures.cases) (c.in-Success.ensures.done tt)
    ∙ sym (ap (λ ps. pairs_of c.args.self.now ++ ps) (first_taken g.met.K.Ord.total (pairs_of c.args.self.now) c.args.source.now.array.pairs c.args.from c.args.count _ c.pair.ensures))
