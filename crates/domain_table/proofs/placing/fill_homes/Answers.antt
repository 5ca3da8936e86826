use Rattle.std.proofs.Common.{refl, inl, arith}
use Rattle.domain_table.proofs.placing.fill_homes.Goals as goal

pub loop-at-init : goal.loop-at-init
loop-at-init g c = let q = c.requires.filling in let f = q.0 in let m = c.args.seat.now.me in let t = c.requires.table in let p = c.requires.parts in record {
  seat = (refl, refl);
  filled = (f, q.1, q.2, q.3, q.4, inl refl, λ j. (record m.0 { slot = t.5 j; filling = q.1 j }, m.1));
  shared = omega arith;
  all = (refl, λ j. record c.args.all.now.life { count = p.0 j });
}
