use Rattle.std.proofs.Common.{◌≡◌, ℕ, ◌++◌, List, map, length}
use Rattle.std.specs.VecDeque.{deque_capacity}
use Rattle.sdd_homes.specs.declared.Garbage.{Garbage}
use Rattle.sdd_homes.specs.declared.Lease.{Lease}
use Rattle.sdd_homes.specs.declared.Owner.{Owner}
use Rattle.domain_table.specs.Ledgers.{WaitsIn}
use Rattle.domain_table.specs.Leases.{row_told, lease_told, row_slots}
use Rattle.domain_table.specs.Owners.{told}
use Rattle.domain_table.specs.Leases.{AreAt}
use Rattle.sdd_domain.proofs.reclaiming.give_up_under.Given as goal

abbrev pub invariant-loop-held : goal.invariant-loop-held
invariant-loop-held g l = record {
  seat : (l.seat.table_id ≡ l.fn.seat.table_id) × (l.seat.id ≡ l.fn.seat.id);
  owners : (hs os : List Owner) → g.T.Holds.holds l.fn.item ≡ map told hs → l.fn.seat.me.0.hand ≡ hs ++ os → (ks : List Owner) × (ws : List Garbage) × (ls : List Lease) × (g.T.Holds.holds l.item ≡ map told ks) × AreAt l.fn.seat.me.0.leases ls × (l.seat.me ≡ (record l.fn.seat.me.0 { hand = ks ++ os; leases = ls; waits = ws }, l.fn.seat.me.1));
  rows : (life : ℕ) → map row_told l.fn.rows.items ≡ map (lease_told life) l.fn.seat.me.0.leases → map row_told l.rows.items ≡ map (lease_told life) l.seat.me.0.leases;
  same : (deque_capacity l.rows ≡ deque_capacity l.fn.rows) × (row_slots l.rows.items ≡ row_slots l.fn.rows.items);
  waits : WaitsIn l.place.sizes.now.slots l.seat.me.0.waits l.bags;
  due : l.bags.due ≡ l.fn.bags.due;
}

abbrev pub decreases-loop-held : goal.decreases-loop-held
decreases-loop-held g l = length (g.T.Holds.holds l.item)
