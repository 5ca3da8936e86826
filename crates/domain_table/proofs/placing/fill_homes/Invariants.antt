use Rattle.std.proofs.Common.{◌≡◌, ◌⊎◌, ◌+◌, ◌*◌, ◌^◌, Some}
use Rattle.sdd_homes.specs.declared.Filling.{Filling}
use Rattle.domain_table.specs.Plays.{filling_at}
use Rattle.domain_table.proofs.placing.fill_homes.Given as goal

abbrev pub invariant-loop-at : goal.invariant-loop-at
invariant-loop-at g l = record {
  seat : (l.seat.table_id ≡ l.initial.seat.table_id) × (l.seat.id ≡ l.initial.seat.id);
  filled : (f : Filling) × (l.seat.me.0.filling ≡ Some f) × (f.filled ≡ l.at) × (f.out ≡ l.place.sizes.now.participants) × (f.left ≡ l.left) × ((l.at ≡ 0) ⊎ (l.all.life.id ≡ f.round)) × (l.seat.me ≡ (filling_at l.slot f l.initial.seat.me.0, l.initial.seat.me.1));
  shared : l.left + l.at * l.each ≡ 2 ^ 63;
  all : (l.all.seen ≡ l.initial.all.seen) × (l.all.life ≡ record l.initial.all.life { count = l.left });
}
