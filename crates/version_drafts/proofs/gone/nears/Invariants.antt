use Rattle.std.proofs.Common.{ℕ, ◌<◌, get_or}
use Rattle.version_drafts.specs.Gone.{IsNear}
use Rattle.version_drafts.specs.declared.gone.Gone.{Gone}
use Rattle.version_drafts.proofs.gone.nears.Given as goal

-- none so far is near
abbrev pub invariant-loop-range : goal.invariant-loop-range
invariant-loop-range g l = (i : ℕ) (d : Gone g.row.K.Denot) → i < l.range-index → IsNear (get_or l.gone i d) l.place → ⊥
