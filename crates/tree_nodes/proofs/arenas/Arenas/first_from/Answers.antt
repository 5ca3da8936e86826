use Rattle.std.proofs.Common.{◌≡◌, ◌<◌, ℕ, Option, Some, sym, subst, arith}
use Rattle.slab.specs.Slab.{get}
use Rattle.tree_nodes.specs.declared.leaf.Leaf.{Leaf}
use Rattle.tree_nodes.specs.Content.{leaves_of}
use Rattle.tree_nodes.specs.Walk.{starts_at, IsOwnLeaf}
use Rattle.tree_nodes.specs.Walk.{rest}
use Rattle.tree_nodes.proofs.WalkLemmas.{leaf_around, own_there}
use Rattle.tree_nodes.proofs.arenas.Arenas.first_from.Goals as goal

pub loop-next-smaller : goal.loop-next-smaller
loop-next-smaller g c =
    let a = c.args.self.now in
    let l : Leaf g.row.K.Denot g.row.V.Denot = c.in-Some-get.leaf.now in
    let at = c.in-Some.at in
    let here : get a.leaves at ≡ Some l = sym c.in-Some-get.ensures in
    let own = subst (IsOwnLeaf a) c.in-Some.is c.loop-next.invariant.own in
    let around = leaf_around g.K.Ord.cmp a c.requires.sound at l own here in
    subst (λ (x : Option ℕ). rest (leaves_of a) l.next < rest (leaves_of a) x) (sym c.in-Some.is) around.next_rest

pub loop-next-preserved : goal.loop-next-preserved
loop-next-preserved g c =
    let a = c.args.self.now in
    let l : Leaf g.row.K.Denot g.row.V.Denot = c.in-Some-get.leaf.now in
    let at = c.in-Some.at in
    let here : get a.leaves at ≡ Some l = sym c.in-Some-get.ensures in
    let own = subst (IsOwnLeaf a) c.in-Some.is c.loop-next.invariant.own in
    let around = leaf_around g.K.Ord.cmp a c.requires.sound at l own here in
    let same = subst (λ x. starts_at a x ≡ starts_at a c.args.from) c.in-Some.is c.loop-next.invariant.same in
    record { own = around.next_own; same = omega (arith, around.next_starts, c.len.ensures.count, c.if-len-gt0.false, same) }

pub unreachable-requires : goal.unreachable-requires
unreachable-requires g c =
    own_there g.K.Ord.cmp c.args.self.now c.requires.sound c.in-Some.at (subst (IsOwnLeaf c.args.self.now) c.in-Some.is c.loop-next.invariant.own) (sym (rw c.in-None.is at c.get.ensures))
