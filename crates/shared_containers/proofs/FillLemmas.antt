-- steps on cells before and behind the one that fills a place of a bag
use Rattle.std.proofs.Common.{◌≡◌, ⊎_elim, ◌+◌, ℕ, [], ◌∷◌, ◌++◌, Option, None, Some, append_assoc, inl, inr, sym, ap, ◌∙◌, subst}
use Rattle.std.specs.Prelude.{IfNone}
use Rattle.sdd_domain.specs.Cells.{cell_number}
use Rattle.sdd_domain.specs.CellSteps.{CellStep, NamesWith, cell_steps_of, HasMadeSome, StepsOnNoCell, HasExchanged, step_on}
use Rattle.sdd_domain.specs.Comparing.{owner_code}
use Rattle.sdd_domain.specs.Tokens.{home_of}
use Rattle.sdd_domain.specs.declared.local.Local.{Local}
use Rattle.sdd_domain.specs.declared.shared.Shared.{Shared}
use Rattle.sdd_domain.proofs.CellSteps.{made_both, step_since}
use Rattle.shared_containers.proofs.PutLemmas.{front_behind, put_same}
use Rattle.shared_containers.specs.Put.{HasFilledLast, HasFilledOneOf, HasPutBefore, HasPutInto}
use Rattle.shared_containers.specs.declared.bag.Bag.{Bag}
use Rattle.shared_lists.specs.Lists.{IsCellAt}
use Rattle.shared_lists.specs.declared.links.Links.{Links}
use Rattle.shared_lists.specs.declared.links.Row.{Row}

-- what follows where nothing is back
pub none_then : {X P Q : Type 0} → (o : Option X) → (P → Q) → IfNone o P → IfNone o Q
none_then None f = f
none_then (Some x) f = λ p. tt

module _ {T : Type 0} where
  module _ (a b c : Local T) where
    -- a cell is filled behind other steps
    pub filled_last : (cell : ℕ) (s : Shared T) → home_of b ≡ home_of a → HasMadeSome a b → HasExchanged b cell 0 0 0 (owner_code (Some s)) c → HasFilledLast a cell s c
    filled_last cell s home r e = let v = e.2 in
        (r.0, e.0, v.0, e.1, v.1, made_both a b c r.0 (step_on a cell e.0 v.0 ∷ []) r.1 (v.2 ∙ ap (λ z. cell_steps_of b ++ z ∷ []) (step_since cell a b e.0 v.0 home)))

    last_behind : (cell : ℕ) (s : Shared T) → home_of b ≡ home_of a → HasMadeSome a b → HasFilledLast b cell s c → HasFilledLast a cell s c
    last_behind cell s home r q = let w : ℕ = q.1 in let v : ℕ = q.2 in let x : CellStep = step_on a cell w v in (
      r.0 ++ q.0,
      w,
      v,
      q.3,
      q.4,
      made_both a b c r.0 (q.0 ++ x ∷ []) r.1 (q.5 ∙ ap (λ z. cell_steps_of b ++ (q.0 ++ z ∷ [])) (step_since cell a b w v home)) ∙ ap (λ zs. cell_steps_of a ++ zs) (sym (append_assoc r.0 q.0 (x ∷ []))),
    )

    -- one of a row is filled behind other steps, and before what are none
    pub one_filled_behind : (row : Row T) (s : Shared T) → home_of b ≡ home_of a → HasMadeSome a b → HasFilledOneOf b row s c → HasFilledOneOf a row s c
    one_filled_behind row s home r q = (q.0, q.1, q.2, last_behind q.1 s home r q.3)

    pub one_filled_quiet : (row : Row T) (s : Shared T) → HasFilledOneOf a row s b → StepsOnNoCell b c → HasFilledOneOf a row s c
    one_filled_quiet row s q quiet = let l = q.3 in (q.0, q.1, q.2, (l.0, l.1, l.2, l.3, l.4, quiet ∙ l.5))

  -- one of a row is filled for an owner of the item in the same slot
  pub one_filled : (a b c : Local T) (row : Row T) (i cell : ℕ) (s q : Shared T) → home_of b ≡ home_of a → HasMadeSome a b → s.slot ≡ q.slot → IsCellAt row i cell → HasFilledLast b cell s c → HasFilledOneOf a row q c
  one_filled a b c row i cell s q home r same at m = let l = last_behind a b c cell s home r m in (i, cell, at, (l.0, l.1, l.2, l.3, subst (λ k. NamesWith l.2 0 (k + 1)) same l.4, l.5))

  -- a bag takes an item in behind other steps
  pub into_behind : {n : ℕ} (bag : Bag T n) (links : Links T) (a b c : Local T) (s : Shared T) → home_of b ≡ home_of a → HasMadeSome a b → HasPutInto b bag links s c → HasPutInto a bag links s c
  into_behind bag links a b c s home r =
      ⊎_elim (λ (q : HasFilledOneOf b bag.primary s c). inl (one_filled_behind a b c bag.primary s home r q)) (λ (q : HasPutBefore b links (cell_number bag.overflow.first) s c). inr (front_behind links a b c (cell_number bag.overflow.first) s home r q))

  -- and in front of its overflow for an owner of the item in the same slot
  pub into_overflow : {n : ℕ} (bag : Bag T n) (links : Links T) (a b c : Local T) (s q : Shared T) → home_of b ≡ home_of a → HasMadeSome a b → s.slot ≡ q.slot → HasPutBefore b links (cell_number bag.overflow.first) s c → HasPutInto a bag links q c
  into_overflow bag links a b c s q home r same m = let cell : ℕ = cell_number bag.overflow.first in inr (put_same a c links s q same cell (front_behind links a b c cell s home r m))
