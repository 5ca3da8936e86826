use Rattle.std.proofs.Common.{◌≡◌, ℕ, List, length}
use Rattle.sdd_homes.specs.declared.Garbage.{Garbage}
use Rattle.domain_table.specs.Bags.{aged}
use Rattle.domain_table.specs.Ledgers.{WaitsIn}
use Rattle.sdd_domain.proofs.reclaiming.reclaim_due.Given as goal

abbrev pub invariant-loop-slot : goal.invariant-loop-slot
invariant-loop-slot g l = record {
  seat : (l.seat.table_id ≡ l.fn.seat.table_id) × (l.seat.id ≡ l.fn.seat.id);
  reclaimed : (k : ℕ) × (ws : List Garbage) × (l.seat.me ≡ (record l.fn.seat.me.0 { slot = k; waits = ws }, l.fn.seat.me.1));
  waits : WaitsIn l.place.sizes.now.slots l.seat.me.0.waits l.bags;
}

abbrev pub decreases-loop-slot : goal.decreases-loop-slot
decreases-loop-slot g l = length (aged 3 l.seat.me.0.waits)
