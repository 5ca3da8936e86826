use Rattle.std.proofs.Common.{◌++◌, ◌∷◌, [], refl}
use Rattle.domain_table.proofs.Looks.{has_last, has_more}
use Rattle.domain_table.proofs.settling.passes.Goals as goal

pub returns-then-other-number-clause-looked : goal.returns-then-other-number-clause-looked
returns-then-other-number-clause-looked g c = (c.args.seat.now.me.0.known.looked, refl, (λ _ other. absurd (other c.if-other-number.true)), λ q h. h)

pub returns-then-is_shut-clause-looked : goal.returns-then-is_shut-clause-looked
returns-then-is_shut-clause-looked g c = let old = c.args.seat.now.me.0.known.looked in let n = c.args.other in (old ++ n ∷ [], c.is_shut.ensures.noted c.if-is_shut.true, (λ _ _. has_last old n), λ q h. has_more old n q h)
