use Rattle.std.proofs.Common.{◌≡◌, ◌++◌, List, map, length}
use Rattle.sdd_homes.specs.declared.Garbage.{Garbage}
use Rattle.sdd_homes.specs.declared.Owner.{Owner}
use Rattle.domain_table.specs.Bags.{aged}
use Rattle.domain_table.specs.Ledgers.{WaitsIn}
use Rattle.domain_table.specs.Owners.{told}
use Rattle.sdd_domain.proofs.reclaiming.give_up.Given as goal

abbrev pub invariant-loop-held : goal.invariant-loop-held
invariant-loop-held g l = record {
  seat : (l.seat.table_id ≡ l.fn.seat.table_id) × (l.seat.id ≡ l.fn.seat.id);
  owners : (hs os : List Owner) → g.T.Holds.holds l.fn.item ≡ map told hs → l.fn.seat.me.0.hand ≡ hs ++ os → (ks : List Owner) × (ws : List Garbage) × (g.T.Holds.holds l.item ≡ map told ks) × (l.seat.me ≡ (record l.fn.seat.me.0 { hand = ks ++ os; waits = ws }, l.fn.seat.me.1));
  waits : WaitsIn l.place.sizes.now.slots l.seat.me.0.waits l.bags;
  due : (aged 3 l.seat.me.0.waits ≡ aged 3 l.fn.seat.me.0.waits) × (l.bags.due ≡ l.fn.bags.due);
}

abbrev pub decreases-loop-held : goal.decreases-loop-held
decreases-loop-held g l = length (g.T.Holds.holds l.item)
