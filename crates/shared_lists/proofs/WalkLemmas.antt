-- walks over deleted entries, step by step
use Rattle.std.proofs.Common.{◌≡◌, ◌<◌, ◌≤◌, ◌+◌, ℕ, Option, None, Some, IfNone, IfSome, inl, subst, ◌++◌, [], ◌∷◌, List, append_assoc, append-nil, length, length-append, refl, sym, ap, ◌∙◌, arith}
use Rattle.sdd_domain.specs.CellSteps.{CellStep, NamesWith, cell_steps_of, HasMade, HasReadCell, StepsOnNoCell, step_on}
use Rattle.sdd_domain.specs.Comparing.{code_of, owner_slot}
use Rattle.sdd_domain.specs.Tokens.{home_of}
use Rattle.sdd_domain.specs.declared.local.Local.{Local}
use Rattle.sdd_domain.specs.declared.shared.Shared.{Shared}
use Rattle.sdd_domain.proofs.CellSteps.{made_both, step_since}
use Rattle.shared_lists.specs.Entries.{Walks, HasFoundNext, HasFoundNone}
use Rattle.shared_lists.specs.Lists.{IsLinkOf}
use Rattle.shared_lists.specs.declared.links.Links.{Links}

-- how far a walk is, behind so many entries at least
abbrev pub HasWalked : {T : Type 0} → Local T → Links T → ℕ → ℕ → ℕ → Local T → Type 0
HasWalked old links cell n c new = (xs : List CellStep) × Walks old links cell xs c × (n ≤ length xs) × HasMade old xs new

module _ {T : Type 0} (links : Links T) (cell : ℕ) where
  pub not_walked : (a : Local T) → HasWalked a links cell 0 cell a
  not_walked a = ([], Walks.here, omega arith, sym (append-nil (cell_steps_of a)))

  end_made : (a b c : Local T) (at n : ℕ) → home_of b ≡ home_of a → (walked : HasWalked a links cell n at b) (t k : ℕ) (read : HasReadCell b at t k c) → HasMade a (walked.0 ++ step_on a at read.0 read.0 ∷ []) c
  end_made a b c at n home walked t k read = made_both a b c walked.0 (step_on a at read.0 read.0 ∷ []) walked.3 (read.2 ∙ ap (λ z. cell_steps_of b ++ z ∷ []) (step_since at a b read.0 read.0 home))

  module _ (a b c d : Local T) (at n : ℕ) (home_b : home_of b ≡ home_of a) (home_c : home_of c ≡ home_of a) (walked : HasWalked a links cell n at b) where
    -- the steps that read a cell, and the link of what it named
    module _ (next k t j u : ℕ) (read : HasReadCell b at t (k + 1) c) (is : IsLinkOf links k next) (found : HasReadCell c next u j d) where
      abbrev x : CellStep
      x = step_on a at read.0 read.0

      abbrev y : CellStep
      y = step_on a next found.0 found.0

      first_made : HasMade b (step_on a at read.0 read.0 ∷ []) c
      first_made = read.2 ∙ ap (λ z. cell_steps_of b ++ z ∷ []) (step_since at a b read.0 read.0 home_b)

      both_made : HasMade a (walked.0 ++ x ∷ y ∷ []) d
      both_made = made_both a c d (walked.0 ++ x ∷ []) (y ∷ []) (made_both a b c walked.0 (x ∷ []) walked.3 first_made) (found.2 ∙ ap (λ z. cell_steps_of c ++ z ∷ []) (step_since next a c found.0 found.0 home_c))
          ∙ ap (λ zs. cell_steps_of a ++ zs) (append_assoc walked.0 (x ∷ []) (y ∷ []))

      pub walked_on : 2 ≤ u → HasWalked a links cell (n + 1) next d
      walked_on gone = (walked.0 ++ x ∷ y ∷ [], Walks.past read.0 t k next found.0 u j walked.1 read.1 is found.1 gone, (let long = walked.2 in simp length-append (omega arith)), both_made)

      pub found_next : u < 2 → HasFoundNext a links cell k d
      found_next there = (walked.0, at, next, read.0, found.0, t, u, j, walked.1, is, read.1, found.1, there, both_made)

  -- where it named nothing
  pub none_found : (a b c : Local T) (at n t : ℕ) (o p : Option ℕ) → p ≡ o → home_of b ≡ home_of a → HasWalked a links cell n at b → HasReadCell b at t (code_of o) c → IfNone p (HasFoundNone a links cell c)
  none_found a b c at n t o (Some k) e home walked read = tt
  none_found a b c at n t o None e home walked read = let nothing : code_of o ≡ 0 = ap code_of (sym e) in let r = subst (λ k. HasReadCell b at t k c) nothing read in
      (walked.0, at, walked.1, inl (r.0, t, r.1, end_made a b c at n home walked t 0 r))

  -- an owner of what was found, behind which nothing was done to cells
  pub found_before : (a b c : Local T) (o : Option (Shared T)) (p : Option ℕ) (n : ℕ) → IfSome o (λ s. owner_slot (Some s) ≡ p) → StepsOnNoCell b c → IfSome p (λ k. k < n → HasFoundNext a links cell k b) → IfSome o (λ s. s.slot < n → HasFoundNext a links cell s.slot c)
  found_before a b c None p n exact quiet found = tt
  found_before a b c (Some s) p n exact quiet found = λ low. let f = subst (λ q. IfSome q (λ k. k < n → HasFoundNext a links cell k b)) (sym exact) found low in (f.0, f.1, f.2, f.3, f.4, f.5, f.6, f.7, f.8, f.9, f.10, f.11, f.12, quiet ∙ f.13)
