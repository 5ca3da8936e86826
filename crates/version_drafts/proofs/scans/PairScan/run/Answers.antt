use Rattle.std.proofs.Common.{take, subst}
use Rattle.version_drafts.specs.Cutting.{LiesBelow}
use Rattle.version_drafts.proofs.scans.PairScan.run.Goals as goal

pub returns-clause-below : goal.returns-clause-below
returns-clause-below g c = subst (λ ps. LiesBelow g.K.Ord.cmp c.args.upto (take c.run.result ps)) c.self.view_is c.run.ensures.below
