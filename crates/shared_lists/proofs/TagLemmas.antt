-- tags that were found, and what they rule out
use Rattle.std.proofs.Common.{◌≡◌, ◌⊎◌, ◌<◌, ◌≤◌, ℕ, zero, suc, inl, inr, ⊎_elim, arith}
use Rattle.sdd_plain.specs.Epochs.{tag_number}
use Rattle.sdd_domain.specs.CellSteps.{HasFoundLast, HasReadOften}
use Rattle.sdd_domain.specs.Comparing.{code_of}
use Rattle.sdd_domain.specs.declared.local.Local.{Local}
use Rattle.sdd_domain.specs.declared.pointer.Ptr.{Ptr}

pub at_least_two : (t : ℕ) → (t < 2 → ⊥) → 2 ≤ t
at_least_two zero nope = absurd (nope (omega arith))
at_least_two (suc zero) nope = absurd (nope (omega arith))
at_least_two (suc (suc t)) nope = omega arith

pub below_two : (t : ℕ) → (2 ≤ t → ⊥) → t < 2
below_two zero nope = omega arith
below_two (suc zero) nope = omega arith
below_two (suc (suc t)) nope = absurd (nope (omega arith))

-- where a condition was refused, the tag that was found is such a one
pub not_found : {T : Type 0} (a b : Local T) (cell n : ℕ) (F : Ptr T → Type 0) (G : ℕ → Type 0) → ((p : Ptr T) → F p → G (tag_number p.tag)) → ((p : Ptr T) × F p × HasFoundLast a cell (tag_number p.tag) (code_of p.slot) b) ⊎ HasReadOften a cell n b
    → ((t : ℕ) × (k : ℕ) × G t × HasFoundLast a cell t k b) ⊎ HasReadOften a cell n b
not_found {T} a b cell n F G means found = ⊎_elim (λ (f : (p : Ptr T) × F p × HasFoundLast a cell (tag_number p.tag) (code_of p.slot) b). inl (tag_number f.0.tag, code_of f.0.slot, means f.0 f.1, f.2)) (λ (o : HasReadOften a cell n b). inr o) found
