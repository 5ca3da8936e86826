use Rattle.std.proofs.Common.{◌≡◌, ◌-◌, ◌<◌, ◌≤◌, ◌^◌, Some}
use Rattle.sdd_homes.specs.declared.Filling.{Filling}
use Rattle.domain_table.specs.Plays.{filling_at}
use Rattle.domain_garbage.proofs.reclaiming.gather_all.Given as goal

abbrev pub invariant-loop-gone : goal.invariant-loop-gone
invariant-loop-gone g l = record {
  seat : (l.seat.table_id ≡ l.fn.seat.table_id) × (l.seat.id ≡ l.fn.seat.id);
  filled : (f : Filling) × (l.seat.me.0.filling ≡ Some f) × (f.filled ≡ l.place.sizes.now.participants - l.gone) × (f.out ≡ l.place.sizes.now.participants) × (f.left ≡ l.all.life.count) × (l.all.life.id ≡ f.round) × (l.seat.me ≡ (filling_at l.slot f l.fn.seat.me.0, l.fn.seat.me.1));
  round : (f : Filling) → l.fn.seat.me.0.filling ≡ Some f → l.all.life.id ≡ f.round;
  some : 0 < l.all.life.count;
  most : l.all.life.count ≤ 2 ^ 63;
  whole : l.gone ≡ l.place.sizes.now.participants → l.all.life.count ≡ 2 ^ 63;
}
