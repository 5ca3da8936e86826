use Rattle.world_containers.proofs.Names.{ℕ, ◌<◌, arith, subst, sym, inl, inr, not, length, cases_eq, IsSharedCell, IsNull, cell_of}
use Rattle.world_containers.proofs.RowLemmas.{numbered, null_at, told_not}
use Rattle.world_containers.proofs.world.row.find.Goals as goal

pub is_null-requires : goal.is_null-requires
is_null-requires g c =
    let lt : c.loop-at.at < length c.args.cells.now.items = omega (arith, c.loop-at-test.true, c.len-at-end.ensures) in
    subst (λ (j : ℕ). IsSharedCell c.args.w.now j) (sym (numbered c.args.cells.now.items c.loop-at.at c.index.result.now lt c.index.ensures)) (c.requires c.loop-at.at lt)

pub loop-at-preserved : goal.loop-at-preserved
loop-at-preserved g c =
    let lt : c.loop-at.at < length c.args.cells.now.items = omega (arith, c.loop-at-test.true, c.len-at-end.ensures) in
    let now = null_at c.args.w.now _ (cell_of c.args.cells.now.items c.loop-at.at) c.is_null.result (not c.args.null) (numbered c.args.cells.now.items c.loop-at.at c.index.result.now lt c.index.ensures) (told_not c.is_null.result c.args.null c.if-is_null-null.false) c.is_null.ensures in
    record {
      passed = λ k from less. elim (cases_eq k c.loop-at.at) [
        | inl e ↦ subst (λ (j : ℕ). IsNull c.args.w.now (cell_of c.args.cells.now.items j) (not c.args.null)) (sym e) now
        | inr ne ↦ c.loop-at.invariant.passed k from (omega (arith, less, ne))
      ];
    }
