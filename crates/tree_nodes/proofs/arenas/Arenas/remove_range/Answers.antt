use Rattle.std.proofs.Common.{◌≡◌, false, Option, None, sym, ap, ◌∙◌, subst, refl, arith}
use Rattle.std.specs.Range.Bound.{bound_map}
use Rattle.std.specs.BTreeMap.Range.{is_from_start}
use Rattle.std.specs.Borrow.{Bor}
use Rattle.tree_nodes.specs.Walk.{IsPassed}
use Rattle.tree_nodes.proofs.RemovalLemmas.{IsOutside, before_outside, all_passed, passed_less}
use Rattle.tree_nodes.specs.Content.{leaves_of}
use Rattle.tree_nodes.specs.Walk.{rest}
use Rattle.tree_nodes.proofs.arenas.Arenas.remove_range.Goals as goal

pub loop-next-init : goal.loop-next-init
loop-next-init g c =
    let cmp = g.K.Ord.cmp in
    let lower = bound_map (λ (k : Bor g.row.K.Denot). k.now) c.args.lower in
    let upper = bound_map (λ (k : Bor g.row.K.Denot). k.now) c.args.upper in
    record {
      sound = c.requires;
      own = c.leaf_from-next.ensures.own;
      passed = passed_less (λ k. is_from_start cmp lower k ≡ false) (IsOutside cmp lower upper) (before_outside cmp lower upper) c.args.self.now c.leaf_from-next.result c.leaf_from-next.ensures.passed;
      same = refl;
      depth = omega arith;
    }

pub returns-clause-pairs : goal.returns-clause-pairs
returns-clause-pairs g c =
    let cmp = g.K.Ord.cmp in
    let lower = bound_map (λ (k : Bor g.row.K.Denot). k.now) c.args.lower in
    let upper = bound_map (λ (k : Bor g.row.K.Denot). k.now) c.args.upper in
    let done : IsPassed (IsOutside cmp lower upper) c.loop-next.self None = subst (λ (x : Option _). IsPassed (IsOutside cmp lower upper) c.loop-next.self x) c.in_default.is c.loop-next.invariant.passed in
    sym (all_passed cmp lower upper c.loop-next.self done) ∙ c.loop-next.invariant.same

pub loop-next-preserved : goal.loop-next-preserved
loop-next-preserved g c =
    let i = c.loop-next.invariant in
    let e = c.remove_in-next.ensures in
    record { sound = e.sound; own = e.own; passed = e.passed; same = e.same ∙ i.same; depth = omega (arith, e.depth, i.depth) }

pub loop-next-preserved-in-Some-fork_within : goal.loop-next-preserved-in-Some-fork_within
loop-next-preserved-in-Some-fork_within g c =
    let i = c.loop-next.invariant in
    let e = c.remove_leaf-next.ensures in
    record { sound = e.sound; own = e.own; passed = e.passed; same = e.same ∙ i.same; depth = omega (arith, e.depth, i.depth) }

pub loop-next-smaller : goal.loop-next-smaller
loop-next-smaller g c =
    let at = ap (rest (leaves_of c.loop-next.self)) c.in-Some.is in
    let order = ap (λ l. rest l c.remove_in-next.result) c.remove_in-next.ensures.order in
    omega (arith, at, order, c.remove_in-next.ensures.fewer)

pub loop-next-smaller-in-Some-fork_within : goal.loop-next-smaller-in-Some-fork_within
loop-next-smaller-in-Some-fork_within g c =
    let at = ap (rest (leaves_of c.loop-next.self)) c.in-Some.is in
    omega (arith, at, c.remove_leaf-next.ensures.fewer)
