-- lists at a place, numbers changed at a place, and tests that answer yes
use Rattle.std.proofs.Common.{◌≡◌, ◌≢◌, ◌⊎◌, ◌&&◌, ◌||◌, Bool, true, false, not, ℕ, zero, suc, ◌<◌, ◌≤◌, List, [], ◌∷◌, ◌++◌, map, length, get_or, set, replicate, sym, refl, ap, ◌∙◌, subst, ⊎_elim, inl, inr, arith}
use mathlib.Core.Logic.{dite}
use mathlib.Core.Option.{some, some-injective, some-ne-none}
use native.Mathlib.Decide.{ℕ_discrete}
use lib.ListN.{get_elem?}
use Rattle.sdd_steps.specs.State.{At, Has}

pub both : (a b : Bool) → (a && b) ≡ true → (a ≡ true) × (b ≡ true)
both true b h = (refl, h)
both false b h = absurd (cc)

pub either : (a b : Bool) → (a || b) ≡ true → (a ≡ true) ⊎ (b ≡ true)
either true b h = inl refl
either false b h = inr h

pub unless : (b : Bool) → not b ≡ true → b ≡ false
unless true h = absurd (cc)
unless false h = refl

module _ {A : Type 0} where
  abbrev pick : {P : Type 0} → Dec P → A → A → A
  pick (yes _) a b = a
  pick (no _) a b = b

  -- f with c at i
  pub put : (ℕ → A) → ℕ → A → ℕ → A
  put f i c j = pick (ℕ_discrete j i) c (f j)

  pub put_here : (f : ℕ → A) (i : ℕ) (c : A) → put f i c i ≡ c
  unfolding put
  put_here f i c = go (ℕ_discrete i i)
    where
      go : (d : Dec (i ≡ i)) → pick d c (f i) ≡ c
      go (yes _) = refl
      go (no n) = absurd (n refl)

  pub put_else : (f : ℕ → A) (i : ℕ) (c : A) (j : ℕ) → j ≢ i → put f i c j ≡ f j
  unfolding put
  put_else f i c j other = go (ℕ_discrete j i)
    where
      go : (d : Dec (j ≡ i)) → pick d c (f j) ≡ f j
      go (yes e) = absurd (other e)
      go (no _) = refl

  -- what holds of the new one here, and of the old ones elsewhere, holds of each
  pub put_all : (P : ℕ → A → Type 0) (f : ℕ → A) (i : ℕ) (c : A) (j : ℕ) → P i c → (j ≢ i → P j (f j)) → P j (put f i c j)
  put_all P f i c j here else = dite (ℕ_discrete j i)
      (λ e. subst (λ (z : ℕ). P z (put f i c z)) (sym e) (subst (P i) (sym (put_here f i c)) here))
      (λ e. subst (P j) (sym (put_else f i c j e)) (else e))

pub put_at_most : (f : ℕ → ℕ) (i c n : ℕ) → c ≤ n → ((j : ℕ) → f j ≤ n) → (j : ℕ) → put f i c j ≤ n
put_at_most f i c n here else j = put_all (λ _ m. m ≤ n) f i c j here (λ _. else j)

module _ {A : Type 0} where
  pub at_set : (l : List A) (i j : ℕ) (a b : A) → At (set l i a) j b → ((j ≡ i) × (a ≡ b)) ⊎ ((j ≢ i) × At l j b)
  at_set [] i j a b e = absurd (some-ne-none b (sym e))
  at_set (x ∷ xs) zero zero a b e = inl (refl, some-injective a b e)
  at_set (x ∷ xs) zero (suc j) a b e = inr ((λ h. omega arith), e)
  at_set (x ∷ xs) (suc i) zero a b e = inr ((λ h. omega arith), e)
  at_set (x ∷ xs) (suc i) (suc j) a b e = ⊎_elim (λ (t : (j ≡ i) × (a ≡ b)). inl (ap suc t.0, t.1)) (λ (t : (j ≢ i) × At xs j b). let n = t.0 in inr ((λ h. n (omega arith)), t.1)) (at_set xs i j a b e)

  pub set_all : (P : ℕ → A → Type 0) (l : List A) (p : ℕ) (x : A) → P p x → ((q : ℕ) (y : A) → q ≢ p → At l q y → P q y) → (q : ℕ) (y : A) → At (set l p x) q y → P q y
  set_all P l p x here else q y at = ⊎_elim (λ (t : (q ≡ p) × (x ≡ y)). subst (λ (z : ℕ × A). P z.0 z.1) (λ i. (sym t.0 i, t.1 i)) here) (λ (t : (q ≢ p) × At l q y). else q y t.0 t.1) (at_set l p q x y at)

  pub set_here : (l : List A) (i : ℕ) (a b : A) → At l i b → At (set l i a) i a
  set_here [] i a b h = absurd (some-ne-none b (sym h))
  set_here (x ∷ xs) zero a b h = refl
  set_here (x ∷ xs) (suc i) a b h = set_here xs i a b h

  pub set_else : (l : List A) (i j : ℕ) (a : A) → j ≢ i → get_elem? (set l i a) j ≡ get_elem? l j
  set_else [] i j a n = refl
  set_else (x ∷ xs) zero zero a n = absurd (n refl)
  set_else (x ∷ xs) zero (suc j) a n = refl
  set_else (x ∷ xs) (suc i) zero a n = refl
  set_else (x ∷ xs) (suc i) (suc j) a n = set_else xs i j a (λ e. n (ap suc e))

  pub at_map : {B : Type 0} (f : A → B) (l : List A) (i : ℕ) (a : A) → At l i a → At (map f l) i (f a)
  at_map f [] i a e = absurd (some-ne-none a (sym e))
  at_map f (x ∷ xs) zero a e = ap (λ (y : A). some (f y)) (some-injective x a e)
  at_map f (x ∷ xs) (suc i) a e = at_map f xs i a e

  pub at_inside : (l : List A) (i : ℕ) (x : A) → At l i x → i < length l
  at_inside [] i x at = absurd (some-ne-none x (sym at))
  at_inside (a ∷ l) zero x at = omega arith
  at_inside (a ∷ l) (suc i) x at = let h : i < length l = at_inside l i x at in omega arith

  -- what the place i reads, where there is one
  pub at_get : (l : List A) (i : ℕ) (d : A) → i < length l → At l i (get_or l i d)
  at_get [] i d h = absurd (omega arith)
  at_get (x ∷ xs) zero d h = refl
  at_get (x ∷ xs) (suc i) d h = at_get xs i d (omega arith)

  pub get_at : (l : List A) (i : ℕ) (d a : A) → At l i a → get_or l i d ≡ a
  get_at [] i d a e = absurd (some-ne-none a (sym e))
  get_at (x ∷ xs) zero d a e = some-injective x a e
  get_at (x ∷ xs) (suc i) d a e = get_at xs i d a e

  pub read_at : (l : List A) (i : ℕ) (d x : A) → i < length l → x ≡ get_or l i x → get_or l i d ≡ x
  read_at l i d x h e = get_at l i d x (subst (At l i) (sym e) (at_get l i x h))

  -- what is read is there, or the default
  pub read_or : (P : A → Type 0) (l : List A) (i : ℕ) (d : A) → P d → ((x : A) → At l i x → P x) → P (get_or l i d)
  read_or P [] i d none there = none
  read_or P (x ∷ l) zero d none there = there x refl
  read_or P (x ∷ l) (suc i) d none there = read_or P l i d none there

  pub same_at : (l : List A) (i : ℕ) (x y : A) → At l i x → At l i y → x ≡ y
  same_at l i x y a b = some-injective x y (sym a ∙ b)

  pub find_at : (l : List A) (i : ℕ) → i < length l → (x : A) × At l i x
  find_at [] i h = absurd (omega arith)
  find_at (a ∷ l) zero h = (a, refl)
  find_at (a ∷ l) (suc i) h = find_at l i (omega arith)

  pub at_mapped : {B : Type 0} (f : A → B) (l : List A) (i : ℕ) (y : B) → At (map f l) i y → (x : A) × At l i x × (f x ≡ y)
  at_mapped f [] i y at = absurd (some-ne-none y (sym at))
  at_mapped f (a ∷ l) zero y at = (a, refl, some-injective (f a) y at)
  at_mapped f (a ∷ l) (suc i) y at = at_mapped f l i y at

  pub at_end : (l : List A) (a : A) (i : ℕ) (y : A) → At (l ++ a ∷ []) i y → At l i y ⊎ ((i ≡ length l) × (a ≡ y))
  at_end [] a zero y at = inr (refl, some-injective a y at)
  at_end [] a (suc i) y at = absurd (some-ne-none y (sym at))
  at_end (x ∷ l) a zero y at = inl at
  at_end (x ∷ l) a (suc i) y at = ⊎_elim (λ t. inl t) (λ (t : (i ≡ length l) × (a ≡ y)). let e = t.0 in inr (omega arith, t.1)) (at_end l a i y at)

  pub at_longer : (l m : List A) (i : ℕ) (a : A) → At l i a → At (l ++ m) i a
  at_longer [] m i a e = absurd (some-ne-none a (sym e))
  at_longer (x ∷ xs) m zero a e = e
  at_longer (x ∷ xs) m (suc i) a e = at_longer xs m i a e

  pub at_replicate : (n i : ℕ) (x y : A) → At (replicate n x) i y → x ≡ y
  at_replicate zero i x y at = absurd (some-ne-none y (sym at))
  at_replicate (suc n) zero x y at = some-injective x y at
  at_replicate (suc n) (suc i) x y at = at_replicate n i x y at

  pub has_end : (l : List A) (a b : A) → Has (l ++ a ∷ []) b → Has l b ⊎ (a ≡ b)
  has_end [] a b h = ⊎_elim (λ e. inr e) (λ e. absurd e) h
  has_end (x ∷ l) a b h = ⊎_elim (λ (e : x ≡ b). inl (inl e)) (λ (t : Has (l ++ a ∷ []) b). ⊎_elim (λ (u : Has l b). inl (inr u)) (λ (e : a ≡ b). inr e) (has_end l a b t)) h

  -- two functions that agree on a list give one list
  pub map_alike : {B : Type 0} (f g : A → B) (l : List A) → ((x : A) → Has l x → f x ≡ g x) → map f l ≡ map g l
  map_alike f g [] e = refl
  map_alike f g (x ∷ l) e = λ i. e x (inl refl) i ∷ map_alike f g l (λ y h. e y (inr h)) i

  pub has_map : {B : Type 0} (f : A → B) (l : List A) (y : B) → Has (map f l) y → (x : A) × Has l x × (f x ≡ y)
  has_map f [] y h = absurd h
  has_map f (x ∷ l) y h = ⊎_elim (λ (e : f x ≡ y). (x, inl refl, e)) (λ (t : Has (map f l) y). let u = has_map f l y t in (u.0, inr u.1, u.2)) h

  -- an item of a list at which one place was replaced: the new one, or an old one at another place
  pub each_set : (P : ℕ → A → A → Type 0) (l : List A) (i : ℕ) (a a' : A) → At l i a → P i a a' → ((k : ℕ) (z : A) → k ≢ i → At l k z → P k z z)
      → (k : ℕ) (z : A) → At l k z → (z' : A) × At (set l i a') k z' × P k z z'
  each_set P l i a a' at here else k z at_k = dite (ℕ_discrete k i)
      (λ e. let at_i : At l i z = subst (λ m. At l m z) e at_k in let same : a ≡ z = same_at l i a z at at_i in
      (a', subst (λ m. At (set l i a') m a') (sym e) (set_here l i a' a at), subst (λ (m : ℕ × A). P m.0 m.1 a') (λ u. (sym e u, same u)) here))
      (λ n. (z, set_else l i k a' n ∙ at_k, else k z n at_k))
