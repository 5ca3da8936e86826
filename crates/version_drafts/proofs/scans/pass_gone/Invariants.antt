use Rattle.std.proofs.Common.{◌≡◌, length}
use Rattle.version_drafts.specs.Gone.{without_gone}
use Rattle.version_drafts.proofs.scans.pass_gone.Given as goal

-- nothing that is left was passed
abbrev pub invariant-loop-key : goal.invariant-loop-key
invariant-loop-key g l = without_gone g.K.Ord.cmp l.gone l.pairs ≡ without_gone g.K.Ord.cmp l.gone l.fn.pairs

abbrev pub decreases-loop-key : goal.decreases-loop-key
decreases-loop-key g l = length l.pairs
