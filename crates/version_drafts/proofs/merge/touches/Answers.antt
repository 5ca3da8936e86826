use Rattle.std.proofs.Common.{inr, sym}
use Rattle.version_drafts.proofs.merge.touches.Goals as goal

pub returns-clause-touched : goal.returns-clause-touched
returns-clause-touched g c = λ yes b here. inr (c.thins.ensures.some yes b (sym here))
