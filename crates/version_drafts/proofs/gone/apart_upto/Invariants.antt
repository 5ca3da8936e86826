use Rattle.std.proofs.Common.{ℕ, ◌<◌, ◌≤◌, get_or, length}
use Rattle.version_drafts.specs.Gone.{IsNear}
use Rattle.version_drafts.specs.declared.gone.Gone.{Gone}
use Rattle.version_drafts.proofs.gone.apart_upto.Given as goal

-- none so far is near a place before the end
abbrev pub invariant-loop-range : goal.invariant-loop-range
invariant-loop-range g l = record {
  within : l.end ≤ length l.old;
  apart : (j : ℕ) (d : Gone g.row.K.Denot) → j < l.range-index → (i : ℕ) → l.from ≤ i → i < l.end → IsNear (get_or l.gone j d) i → ⊥;
}
