use Rattle.std.proofs.Common.{◌∙◌, refl}
use Rattle.domain_table.specs.Views.{settled_waits, settling}
use Rattle.domain_table.proofs.SettledWaits.{settled_in}
use Rattle.domain_table.proofs.settling.settle.Goals as goal

pub returns-then-epoch-lt3-clause-kept : goal.returns-then-epoch-lt3-clause-kept
returns-then-epoch-lt3-clause-kept g c = λ _. (c.args.seat.now.me.0.known.looked, refl, refl)

pub returns-clause-settled : goal.returns-clause-settled
returns-clause-settled g c = λ _. let l = c.all_shut.ensures.looked in let j = c.joined-due.ensures.joined in let e = c.settle_all.ensures.2 in let n = c.args.epoch in (
  l.0,
  settled_waits j.0,
  settled_in c.args.place.sizes.now.slots j.0 c.joined-due.result j.1 j.2,
  e ∙ ((λ i. (settling n (j.3 i).0, (j.3 i).1)) ∙ λ i. (settling n (record (l.1 i).0 { waits = j.0 }), (l.1 i).1)),
)
