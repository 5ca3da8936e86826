use Rattle.std.proofs.Common.{◌≡◌, ◌<◌, length}
use Rattle.sdd_table.specs.Steps.{given_all}
use Rattle.sdd_table.proofs.reclaim.give_all.Given as goal

abbrev pub invariant-loop-held : goal.invariant-loop-held
invariant-loop-held g l = (l.p < length l.table.participants) × (length l.table.participants ≡ length l.initial.table.participants) × (given_all l.p (g.T.Holds.holds l.value) l.table ≡ given_all l.initial.p (g.T.Holds.holds l.initial.value) l.initial.table)

abbrev pub decreases-loop-held : goal.decreases-loop-held
decreases-loop-held g l = length (g.T.Holds.holds l.value)
