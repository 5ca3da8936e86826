use Rattle.std.proofs.Common.{◌≡◌, drop}
use Rattle.version_drafts.specs.Gone.{is_gone}
use Rattle.version_drafts.proofs.gone.is_gone.Given as goal

-- those that are left decide
abbrev pub invariant-loop-range : goal.invariant-loop-range
invariant-loop-range g l = is_gone g.K.Ord.cmp (drop l.range-index l.gone) l.key ≡ is_gone g.K.Ord.cmp l.gone l.key
