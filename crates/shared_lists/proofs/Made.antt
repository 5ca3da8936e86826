-- steps on cells before and behind others
use Rattle.std.proofs.Common.{◌≡◌, ◌⊎◌, ⊎_elim, ℕ, ◌++◌, [], ◌∷◌, append_assoc, append-nil, sym, ap, ◌∙◌}
use Rattle.sdd_domain.specs.CellSteps.{CellStep, cell_steps_of, HasMade, HasMadeSome, HasMadeOne, StepsOnNoCell, HasReadCell, HasFoundLast, HasReadOften, step_on}
use Rattle.sdd_plain.specs.Epochs.{tag_number}
use Rattle.sdd_domain.specs.Comparing.{code_of}
use Rattle.sdd_domain.specs.declared.pointer.Ptr.{Ptr}
use Rattle.sdd_domain.specs.Tokens.{home_of}
use Rattle.sdd_domain.specs.declared.local.Local.{Local}
use Rattle.sdd_domain.proofs.CellSteps.{made_both, step_since}

module _ {T : Type 0} where
  pub none_made : (a : Local T) → HasMadeSome a a
  none_made a = ([], sym (append-nil (cell_steps_of a)))

  pub quiet_some : (a b : Local T) → StepsOnNoCell a b → HasMadeSome a b
  quiet_some a b quiet = ([], quiet ∙ sym (append-nil (cell_steps_of a)))

  pub read_some : (a b : Local T) (cell t k : ℕ) → HasReadCell a cell t k b → HasMadeSome a b
  read_some a b cell t k r = (step_on a cell r.0 r.0 ∷ [], r.2)

  -- where a tag wasn't set
  pub kept_some : (a b : Local T) (cell n : ℕ) (F : Ptr T → Type 0) → ((r : Ptr T) × F r × HasFoundLast a cell (tag_number r.tag) (code_of r.slot) b) ⊎ HasReadOften a cell n b → HasMadeSome a b
  kept_some a b cell n F = ⊎_elim (λ (f : (r : Ptr T) × F r × HasFoundLast a cell (tag_number r.tag) (code_of r.slot) b). let l = f.2 in (l.0 ++ step_on a cell l.1 l.1 ∷ [], l.4)) (λ (o : HasReadOften a cell n b). (o.0, o.3))

  pub some_then : (a b c : Local T) → HasMadeSome a b → HasMadeSome b c → HasMadeSome a c
  some_then a b c r q = (r.0 ++ q.0, made_both a b c r.0 q.0 r.1 q.1)

  pub one_behind : (a b c : Local T) (x : CellStep) → HasMadeSome a b → HasMadeOne b x c → HasMadeOne a x c
  one_behind a b c x r q = (r.0 ++ q.0, q.1, made_both a b c r.0 (q.0 ++ x ∷ q.1) r.1 q.2 ∙ ap (λ zs. cell_steps_of a ++ zs) (sym (append_assoc r.0 q.0 (x ∷ q.1))))

  pub one_before : (a b c : Local T) (x : CellStep) → HasMadeOne a x b → HasMadeSome b c → HasMadeOne a x c
  one_before a b c x q r = (q.0, q.1 ++ r.0, made_both a b c (q.0 ++ x ∷ q.1) r.0 q.2 r.1 ∙ ap (λ zs. cell_steps_of a ++ zs) (append_assoc q.0 (x ∷ q.1) r.0))

  pub one_made : (a b : Local T) (x : CellStep) → HasMade a (x ∷ []) b → HasMadeOne a x b
  one_made a b x made = ([], [], made)

  pub one_since : (a b c : Local T) (cell w v : ℕ) → home_of b ≡ home_of a → HasMadeOne b (step_on b cell w v) c → HasMadeOne b (step_on a cell w v) c
  one_since a b c cell w v home q = (q.0, q.1, q.2 ∙ ap (λ x. cell_steps_of b ++ (q.0 ++ x ∷ q.1)) (step_since cell a b w v home))
