use Rattle.std.proofs.Common.{◌≤◌, ℕ, sym, ◌∙◌, subst}
use Rattle.std.specs.Prelude.{length}
use Rattle.tree_nodes.proofs.InsertionPointLemmas.{bound_at, gap_past, gap_apart, gap_before, start_all}
use Rattle.tree_nodes.proofs.leaf.Leaf.insertion_point.Goals.{else-beyond-via-then-beyond+else-stands_at, else-beyond-via-else-beyond}
use Rattle.tree_nodes.proofs.leaf.Leaf.insertion_point.Goals as goal

pub returns-then-stands_at-clause-place : goal.returns-then-stands_at-clause-place
returns-then-stands_at-clause-place g c =
    gap_past g.K.Ord.cmp g.met.K.Ord.total c.args.key.now c.args.self.now.array.pairs c.len.ensures.ordered c.lower_bound-place.result.0 c.lower_bound-place.ensures.place c.args.beyond c.if-beyond.true (sym c.stands_at.ensures ∙ c.if-stands_at.true)

pub returns-then-stands_at-clause-most : goal.returns-then-stands_at-clause-most
returns-then-stands_at-clause-most g c =
    let n = c.lower_bound-place.result.0 in
    let place = gap_past g.K.Ord.cmp g.met.K.Ord.total c.args.key.now c.args.self.now.array.pairs c.len.ensures.ordered n c.lower_bound-place.ensures.place c.args.beyond c.if-beyond.true (sym c.stands_at.ensures ∙ c.if-stands_at.true) in
    subst (λ (k : ℕ). k ≤ length c.args.self.now.array.pairs) (sym place) (start_all g.K.Ord.cmp (bound_at c.args.key.now c.args.beyond) c.args.self.now.array.pairs)

pub returns-else-beyond-clause-place : goal.returns-else-beyond-clause-place
returns-else-beyond-clause-place g c =
    elim c.else-beyond.branch [
      | else-beyond-via-then-beyond+else-stands_at w ↦ gap_apart g.K.Ord.cmp g.met.K.Ord.total c.args.key.now c.args.self.now.array.pairs c.len.ensures.ordered c.lower_bound-place.result.0 c.lower_bound-place.ensures.place c.args.beyond w.if-beyond.true (sym w.stands_at.ensures ∙ w.if-stands_at.false)
      | else-beyond-via-else-beyond w ↦ gap_before g.K.Ord.cmp g.met.K.Ord.total c.args.key.now c.args.self.now.array.pairs c.len.ensures.ordered c.lower_bound-place.result.0 c.lower_bound-place.ensures.place c.args.beyond w.if-beyond.false
    ]

pub returns-else-beyond-clause-most : goal.returns-else-beyond-clause-most
returns-else-beyond-clause-most g c =
    let n = c.lower_bound-place.result.0 in
    let ps = c.args.self.now.array.pairs in
    subst (λ (k : ℕ). k ≤ length ps) (sym (returns-else-beyond-clause-place g c)) (start_all g.K.Ord.cmp (bound_at c.args.key.now c.args.beyond) ps)
