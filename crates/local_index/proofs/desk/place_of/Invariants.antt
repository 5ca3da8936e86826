use Rattle.std.proofs.Common.{ℕ, ◌<◌}
use Rattle.local_index.specs.Desk.{IsTicketAt}
use Rattle.local_index.proofs.desk.place_of.Given as goal

-- no ticket so far has the label
abbrev pub invariant-loop-place : goal.invariant-loop-place
invariant-loop-place g l = (place : ℕ) (ticket : _) → place < l.place → IsTicketAt l.tickets l.label place ticket → ⊥
