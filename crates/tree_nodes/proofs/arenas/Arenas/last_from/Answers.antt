use Rattle.std.proofs.Common.{◌≡◌, ◌<◌, ℕ, List, length, Option, Some, sym, ap, subst, arith}
use Rattle.slab.specs.Slab.{get}
use Rattle.tree_nodes.specs.declared.leaf.Leaf.{Leaf}
use Rattle.tree_nodes.specs.Content.{leaves_of}
use Rattle.tree_nodes.specs.Walk.{ends_at, IsOwnLeaf}
use Rattle.tree_nodes.proofs.RowLemmas.{reach}
use Rattle.tree_nodes.proofs.WalkLemmas.{leaf_around, own_there, held_is}
use Rattle.tree_nodes.proofs.arenas.Arenas.last_from.Goals as goal

pub loop-prev-smaller : goal.loop-prev-smaller
loop-prev-smaller g c =
    let a = c.args.self.now in
    let l : Leaf g.row.K.Denot g.row.V.Denot = c.in-Some-get.leaf.now in
    let at = c.in-Some.at in
    let here : get a.leaves at ≡ Some l = sym c.in-Some-get.ensures in
    let own = subst (IsOwnLeaf a) c.in-Some.is c.loop-prev.invariant.own in
    let around = leaf_around g.K.Ord.cmp a c.requires.sound at l own here in
    subst (λ (x : Option ℕ). reach (leaves_of a) l.prev < reach (leaves_of a) x) (sym c.in-Some.is) around.prev_reach

pub loop-prev-preserved : goal.loop-prev-preserved
loop-prev-preserved g c =
    let a = c.args.self.now in
    let l : Leaf g.row.K.Denot g.row.V.Denot = c.in-Some-get.leaf.now in
    let at = c.in-Some.at in
    let here : get a.leaves at ≡ Some l = sym c.in-Some-get.ensures in
    let own = subst (IsOwnLeaf a) c.in-Some.is c.loop-prev.invariant.own in
    let around = leaf_around g.K.Ord.cmp a c.requires.sound at l own here in
    let same = subst (λ x. ends_at a x ≡ ends_at a c.args.from) c.in-Some.is c.loop-prev.invariant.same in
    record { own = around.prev_own; same = omega (arith, around.prev_ends, c.len-len.ensures.count, c.if-len-gt0.false, same, ap (λ (ps : List (g.row.K.Denot × g.row.V.Denot)). length ps) (held_is a at l here)) }

pub unreachable-requires : goal.unreachable-requires
unreachable-requires g c =
    own_there g.K.Ord.cmp c.args.self.now c.requires.sound c.in-Some.at (subst (IsOwnLeaf c.args.self.now) c.in-Some.is c.loop-prev.invariant.own) (sym (rw c.in-None.is at c.get.ensures))
