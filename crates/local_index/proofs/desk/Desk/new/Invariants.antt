use Rattle.std.proofs.Common.{◌≡◌, ◌≤◌, None, replicate, vec_capacity}
use Rattle.local_index.proofs.desk.Desk.new.Given as goal

-- so many slots, and room for the others
abbrev pub invariant-loop : goal.invariant-loop
invariant-loop g l = record { made : l.tickets.items ≡ replicate l.counter None; room : l.places ≤ vec_capacity l.tickets }
