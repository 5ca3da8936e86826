use Rattle.std.proofs.Common.{◌∙◌, ap, drop}
use Rattle.version_views.proofs.ChangeScanLemmas.{stepped}
use Rattle.version_drafts.proofs.scans.PairScan.step.Goals as goal

pub returns : goal.returns
returns g c = stepped g.K.Ord.cmp c.self.inside.cursor c.next.new.self c.self.invariant c.next.ensures.steps.1 ∙ ap (λ ps. drop 1 ps) c.self.view_is
