use Rattle.std.proofs.Common.{◌≡◌, true, cond, None, refl, Option}
use Rattle.std.specs.Prelude.{Bool, false}
use Rattle.tree_index.proofs.laws.done_stays_at_none.Goals as goal

either_none : {X : Type 0} (b : Bool) → ◌≡◌ {A = Option X} (cond b None None) None
either_none true = refl
either_none false = refl

pub returns-clause-forward : goal.returns-clause-forward
returns-clause-forward g a = λ c done. (rw done (either_none _), rw done refl, rw done refl)

pub returns-clause-backward : goal.returns-clause-backward
returns-clause-backward g a = λ c done. (rw done (either_none _), rw done refl, rw done refl)
