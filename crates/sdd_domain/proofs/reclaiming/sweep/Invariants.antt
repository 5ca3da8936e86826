use Rattle.std.proofs.Common.{◌≡◌, ◌≤◌, ◌+◌, ℕ, ◌++◌, List, map, length}
use Rattle.std.specs.VecDeque.{deque_capacity}
use Rattle.sdd_steps.specs.State.{Has}
use Rattle.sdd_homes.specs.declared.Garbage.{Garbage}
use Rattle.sdd_homes.specs.declared.Lease.{Lease}
use Rattle.domain_table.specs.Ledgers.{WaitsIn}
use Rattle.domain_table.specs.Leases.{row_told, lease_told, row_slots}
use Rattle.domain_garbage.specs.Bag.{IsKept}
use Rattle.domain_table.specs.Leases.{AreAt}
use Rattle.sdd_domain.proofs.reclaiming.sweep.Given as goal

abbrev pub invariant-loop-slot : goal.invariant-loop-slot
invariant-loop-slot g l = record {
  seat : (l.seat.table_id ≡ l.initial.seat.table_id) × (l.seat.id ≡ l.initial.seat.id);
  swept : (k : ℕ) × (ws : List Garbage) × (ls : List Lease) × (cs : List Garbage) × AreAt l.initial.seat.me.0.leases ls × (l.seat.me ≡ (record l.initial.seat.me.0 { slot = k; leases = ls; waits = ws; collected = cs }, l.initial.seat.me.1));
  rows : (life : ℕ) → map row_told l.fn.rows.items ≡ map (lease_told life) l.initial.seat.me.0.leases → map row_told l.rows.items ≡ map (lease_told life) l.seat.me.0.leases;
  same : (deque_capacity l.rows ≡ deque_capacity l.fn.rows) × (row_slots l.rows.items ≡ row_slots l.fn.rows.items);
  waits : WaitsIn l.place.sizes.now.slots l.seat.me.0.waits l.bags;
  due : l.bags.due ≡ l.fn.bags.due;
  kept : IsKept l.place.sizes.now.slots l.seat.me.0.collected l.kept;
  gone : (gone : List Garbage) × (l.initial.seat.me.0.collected ≡ l.seat.me.0.collected ++ gone) × ((w : Garbage) → Has gone w → w.age + 3 ≤ l.count);
}

abbrev pub decreases-loop-slot : goal.decreases-loop-slot
decreases-loop-slot g l = length l.seat.me.0.collected
