use Rattle.sdd_steps.proofs.Law.{all_safe}
use Rattle.sdd_steps.proofs.laws.every_schedule_is_safe.Goals as goal

pub returns : goal.returns
returns c = all_safe
