use Rattle.std.proofs.Common.{◌≡◌, replicate}
use Rattle.sdd_steps.specs.State.{newcomer, empty_cell}
use Rattle.sdd_steps.proofs.state.State.start.Given as goal

abbrev pub invariant-loop-p : goal.invariant-loop-p
invariant-loop-p l = l.all.items ≡ replicate l._p newcomer

abbrev pub invariant-loop-c : goal.invariant-loop-c
invariant-loop-c l = (l.all.items ≡ replicate l.participants newcomer) × (l.row.items ≡ replicate l._c empty_cell)
