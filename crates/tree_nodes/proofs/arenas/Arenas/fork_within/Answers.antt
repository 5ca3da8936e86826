use Rattle.std.proofs.Common.{◌≡◌, true, Some, refl, sym, subst}
use Rattle.std.specs.Range.Bound.{bound_map}
use Rattle.std.specs.Borrow.{Bor}
use Rattle.std.specs.BTreeMap.Range.{range_contains}
use Rattle.slab.specs.Slab.{get}
use Rattle.tree_nodes.specs.declared.leaf.Leaf.{Leaf}
use Rattle.tree_nodes.specs.declared.prune.Fork.{Fork}
use Rattle.tree_nodes.specs.Shape.{AllKeys}
use Rattle.tree_nodes.specs.Prune.{IsFork}
use Rattle.tree_nodes.specs.Content.{leaf_on_way}
use Rattle.tree_nodes.specs.Walk.{pairs_in_leaf}
use Rattle.tree_nodes.proofs.WalkLemmas.{held_is}
use Rattle.tree_nodes.proofs.PruneLemmas.{each_some}
use Rattle.tree_nodes.proofs.WithoutLemmas.{own_way}
use Rattle.tree_nodes.proofs.arenas.Arenas.fork_within.Goals as goal

pub returns-then-lies_within-clause-fork : goal.returns-then-lies_within-clause-fork
returns-then-lies_within-clause-fork g c =
    let cmp = g.K.Ord.cmp in
    let o = g.met.K.Ord.total in
    let a = c.args.self.now in
    let n = c.args.at in
    let l : Leaf g.row.K.Denot g.row.V.Denot = c.in-Some.leaf.now in
    let here : get a.leaves n ≡ Some l = sym c.in-Some.ensures in
    let key = c.key.result.now in
    let way = own_way cmp o a c.requires.sound n c.requires.own l here key c.key.ensures in
    each_some (IsFork cmp key a) (λ (f : Fork). (k : g.row.K.Denot) × IsFork cmp k a f × (n ≡ leaf_on_way cmp k a)) c.find_fork.result (λ f p. (key, p, way)) c.find_fork.ensures

pub returns-then-lies_within-clause-within : goal.returns-then-lies_within-clause-within
returns-then-lies_within-clause-within g c =
    let cmp = g.K.Ord.cmp in
    let a = c.args.self.now in
    let n = c.args.at in
    let l : Leaf g.row.K.Denot g.row.V.Denot = c.in-Some.leaf.now in
    let here : get a.leaves n ≡ Some l = sym c.in-Some.ensures in
    let lower = bound_map (λ (k : Bor g.row.K.Denot). k.now) c.args.lower.now in
    let upper = bound_map (λ (k : Bor g.row.K.Denot). k.now) c.args.upper.now in
    each_some (IsFork cmp c.key.result.now a) (λ (f : Fork). AllKeys (λ k. range_contains cmp lower upper k ≡ true) (pairs_in_leaf a n)) c.find_fork.result
    (λ f p. subst (AllKeys (λ k. range_contains cmp lower upper k ≡ true)) (sym (held_is a n l here)) (c.if-lies_within.ensures.within refl)) c.find_fork.ensures
