use Rattle.std.proofs.Common.{◌≡◌, ℕ, ◌++◌, [], List, map, length, drop}
use Rattle.std.specs.VecDeque.{deque_len, deque_capacity}
use Rattle.sdd_homes.specs.declared.Lease.{Lease}
use Rattle.domain_table.specs.Contents.{IsIn, blanks}
use Rattle.domain_table.specs.Leases.{row_told, lease_told, leased_homes}
use Rattle.domain_table.specs.Plays.{Refilled}
use Rattle.domain_table.specs.declared.board.Home.{Home}
use Rattle.domain_table.proofs.leases.refill.Given as goal

-- the homes of the first leases are filled, and behind all others; those of the next ones are in front
abbrev pub invariant-loop-row : goal.invariant-loop-row
invariant-loop-row g l = let m = l.fn.seat.me in record {
  seat : (l.seat.table_id ≡ l.fn.seat.table_id) × (l.seat.id ≡ l.fn.seat.id);
  room : deque_capacity l.rows ≡ deque_capacity l.fn.rows;
  filled : (done : List Lease) × (next : List Lease) × (xs : List (ℕ × Home _)) × (m.0.leases ≡ done ++ next) × (map row_told l.rows.items ≡ map (lease_told l.ended.id) next) × Refilled (IsIn g.H.Holding.holds) m.0 done xs [] × (l.seat.me ≡ (m.0, blanks (leased_homes m.0 next) ++ (drop (length m.0.leases) m.1 ++ xs)));
}

abbrev pub decreases-loop-row : goal.decreases-loop-row
decreases-loop-row g l = deque_len l.rows
