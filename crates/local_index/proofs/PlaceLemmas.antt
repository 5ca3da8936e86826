-- places of sessions: one that is taken and given back, and those of others meanwhile
use Rattle.std.proofs.Common.{◌≡◌, ◌≢◌, ℕ, List, Option, None, Some, set, set-set, sym, ap, ◌∙◌}
use Rattle.std.specs.List.{slice_get}
use Rattle.local_index.proofs.DeskLemmas.{set-other, set-same}

module _ {X : Type 0} (old : List (Option X)) (p : ℕ) where
  -- a place that was free is given back
  pub back_again : (new : List (Option X)) (v : Option X) → new ≡ set old p v → slice_get old p ≡ Some None → set new p None ≡ old
  back_again new v e free = ap (λ xs. set xs p None) e ∙ set-set old p v None ∙ set-same old p None free

  -- it was nobody's
  pub apart : (i : ℕ) (x : X) → slice_get old p ≡ Some None → slice_get old i ≡ Some (Some x) → i ≢ p
  apart i x free h = λ same. absurd (let here = ap (slice_get old) same in cc)

  -- and others keep theirs
  pub others_keep : (new : List (Option X)) (v : Option X) → new ≡ set old p v → (i : ℕ) (x : X) → i ≢ p → slice_get old i ≡ Some (Some x) → slice_get new i ≡ Some (Some x)
  others_keep new v e i x other h = ap (λ xs. slice_get xs i) e ∙ set-other old p v i (λ same. other (sym same)) ∙ h
