use Rattle.std.proofs.Common.{ℕ, List, sym, ap, subst}
use Rattle.sdd_steps.specs.State.{Has}
use Rattle.domain_table.proofs.Looks.{has_last, has_more}
use Rattle.domain_table.proofs.steps.look.Goals as goal

pub returns-then-look_at-clause-noted : goal.returns-then-look_at-clause-noted
returns-then-look_at-clause-noted g c = λ _. let e = c.look_at.ensures.noted c.if-look_at.true in
    subst (λ (l : List ℕ). Has l c.args.other) (sym (ap (λ m. m.0.known.looked) e)) (has_last c.args.seat.now.me.0.known.looked c.args.other)

pub returns-then-look_at-clause-more : goal.returns-then-look_at-clause-more
returns-then-look_at-clause-more g c = λ q h. let e = c.look_at.ensures.noted c.if-look_at.true in
    subst (λ (l : List ℕ). Has l q) (sym (ap (λ m. m.0.known.looked) e)) (has_more c.args.seat.now.me.0.known.looked c.args.other q h)
