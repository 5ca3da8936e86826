use Rattle.std.proofs.Common.{◌≡◌, ◌<◌, ℕ, List}
use Rattle.sdd_steps.specs.State.{Has}
use Rattle.sdd_homes.specs.declared.Garbage.{Garbage}
use Rattle.domain_table.specs.Ledgers.{WaitsIn}
use Rattle.domain_table.proofs.left.take_all_left.Given as goal

abbrev pub invariant-loop-number : goal.invariant-loop-number
invariant-loop-number g l = record {
  seat : (l.seat.table_id ≡ l.fn.seat.table_id) × (l.seat.id ≡ l.fn.seat.id);
  taken : (ws : List Garbage) × WaitsIn l.place.sizes.now.slots ws l.bags × (l.seat.me ≡ (record l.fn.seat.me.0 { waits = ws }, l.fn.seat.me.1));
  due : l.bags.due ≡ l.fn.bags.due;
  looked : (q : ℕ) → q < l.number → Has l.looks.numbers.items q;
}
