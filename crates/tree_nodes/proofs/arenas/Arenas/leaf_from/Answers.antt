use Rattle.std.proofs.Common.{◌≡◌, inl, inr, true, false, Some, sym, subst}
use Rattle.std.specs.Range.Bound.{bound_map}
use Rattle.std.specs.Borrow.{Bor}
use Rattle.std.specs.BTreeMap.Range.{is_from_start}
use Rattle.std.specs.declared.ops.Bound.{Bound}
use Rattle.tree_nodes.specs.Walk.{IsPassed}
use Rattle.tree_nodes.proofs.RemovalLemmas.{bare_passed, start_passed, way_passed}
use Rattle.tree_nodes.proofs.arenas.Arenas.leaf_from.Goals as goal

pub returns-then-self-eq0-clause-passed : goal.returns-then-self-eq0-clause-passed
returns-then-self-eq0-clause-passed g c =
    bare_passed g.K.Ord.cmp (λ k. is_from_start g.K.Ord.cmp (bound_map (λ (k : Bor g.row.K.Denot). k.now) c.args.lower.now) k ≡ false) c.args.self.now c.requires c.if-self-eq0.true

pub returns-in-Unbounded-clause-passed : goal.returns-in-Unbounded-clause-passed
returns-in-Unbounded-clause-passed g c =
    start_passed g.K.Ord.cmp (λ k. is_from_start g.K.Ord.cmp (bound_map (λ (k : Bor g.row.K.Denot). k.now) c.args.lower.now) k ≡ false) c.args.self.now c.requires c.first_leaf.result c.first_leaf.ensures.own c.first_leaf.ensures.first

pub returns-in-Included-clause-own : goal.returns-in-Included-clause-own
returns-in-Included-clause-own g c =
    (way_passed g.K.Ord.cmp g.met.K.Ord.total c.in-Included.key.now false c.args.self.now c.requires c.if-self-eq0.false c.leaf_of.result c.leaf_of.ensures).0

pub returns-in-Included-clause-passed : goal.returns-in-Included-clause-passed
returns-in-Included-clause-passed g c =
    let cmp = g.K.Ord.cmp in
    let a = c.args.self.now in
    let passes : Bound (Bor g.row.K.Denot) → Type 0 = λ b. IsPassed (λ k. is_from_start cmp (bound_map (λ (k : Bor g.row.K.Denot). k.now) b) k ≡ false) a (Some c.leaf_of.result) in
    elim c.in-Included.is [
      | inl e ↦ subst passes (sym e) (way_passed cmp g.met.K.Ord.total c.in-Included.key.now false a c.requires c.if-self-eq0.false c.leaf_of.result c.leaf_of.ensures).1
      | inr e ↦ subst passes (sym e) (way_passed cmp g.met.K.Ord.total c.in-Included.key.now true a c.requires c.if-self-eq0.false c.leaf_of.result c.leaf_of.ensures).1
    ]
