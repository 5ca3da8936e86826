use Rattle.std.proofs.Common.{Result, Ok, Err, IsErr, OnErr, ◌∙◌}
use Rattle.std.proofs.lemmas.Bool.{false≢true}
use Rattle.shared_index.proofs.participant.Participant.transact.Goals as goal

-- a result that is an error has what each error has
of_error : {T E P : Type 0} (told : Result T E) → IsErr told → OnErr told P → P
of_error (Ok done) is = absurd (false≢true is)
of_error (Err refused) is = λ p. p

pub loop-retry-preserved : goal.loop-retry-preserved
loop-retry-preserved g c = (of_error c.attempt-told.result c.if-not-is_conflict.ensures c.attempt-told.ensures.uncounted ∙ c.loop-retry.invariant.0, c.loop-retry.invariant.1)
