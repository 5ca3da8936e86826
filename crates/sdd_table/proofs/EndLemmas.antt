-- what the end of the store and the end of a private bag rest on
use Rattle.std.proofs.Common.{◌≡◌, ℕ, zero, suc, false, Option, None, List, [], ◌∷◌, ◌++◌, get_or, is_some, refl}

-- where no place of a list has a value, none of those in front of the last one has
pub front_none : {T : Type 0} (ys : List (Option T)) (x : Option T) → ((k : ℕ) → is_some (get_or (ys ++ x ∷ []) k None) ≡ false) → (k : ℕ) → is_some (get_or ys k None) ≡ false
front_none [] x h k = refl
front_none (y ∷ ys) x h zero = h zero
front_none (y ∷ ys) x h (suc k) = front_none ys x (λ j. h (suc j)) k
