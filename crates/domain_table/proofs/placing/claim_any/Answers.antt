use Rattle.std.proofs.Common.{ℕ, ◌+◌, ◌%◌, subst, arith}
use Rattle.std.proofs.lemmas.Nat.{mod_below}
use Rattle.domain_table.specs.Contents.{IsIn}
use Rattle.domain_table.specs.Plays.{HasClaimed}
use Rattle.domain_table.proofs.placing.claim_any.Goals as goal

pub returns-then-claim-clause-claimed : goal.returns-then-claim-clause-claimed
returns-then-claim-clause-claimed g c = let k : ℕ = (c.args.from + c.loop-step.step) % c.args.place.sizes.now.slots in let less = c.loop-step-test.true in
    (mod_below (c.args.from + c.loop-step.step) c.args.place.sizes.now.slots (omega arith), subst (λ m. HasClaimed (IsIn g.H.Holding.holds) m k c.claim.new.seat.me) c.loop-step.invariant.same (c.claim.ensures.claimed c.if-claim.true))
