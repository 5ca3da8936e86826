-- how many owners of an item views have
use Rattle.std.proofs.Common.{◌≡◌, ◌≢◌, ◌⊎◌, ℕ, zero, suc, ◌+◌, ◌<◌, ◌≤◌, List, [], ◌∷◌, ◌++◌, set, sym, refl, ap, subst, ⊎_elim, inl, inr, arith}
use mathlib.Core.Option.{some-injective, some-ne-none}
use Rattle.sdd_steps.specs.State.{At, Has, times}
use Rattle.sdd_steps.proofs.CountLemmas.{times_has, times_none}
use Rattle.sdd_steps.proofs.ListLemmas.{has_map}
use Rattle.sdd_homes.specs.declared.Owner.{Owner}
use Rattle.sdd_homes.specs.Hands.{items_of, owned}

pub times_both : (i : ℕ) (hs os : List Owner) → times i (items_of (hs ++ os)) ≡ times i (items_of hs) + times i (items_of os)
times_both i [] os = omega arith
times_both i (h ∷ hs) os = let t = times_both i hs os in omega arith

pub has_both : (hs os : List Owner) (o : Owner) → Has (hs ++ os) o → Has hs o ⊎ Has os o
has_both [] os o h = inr h
has_both (x ∷ hs) os o h = ⊎_elim (λ (e : x ≡ o). inl (inl e)) (λ (t : Has (hs ++ os) o). ⊎_elim (λ (u : Has hs o). inl (inr u)) (λ (u : Has os o). inr u) (has_both hs os o t)) h

pub has_behind : (hs os : List Owner) (i : ℕ) → Has (items_of os) i → Has (items_of (hs ++ os)) i
has_behind [] os i h = h
has_behind (x ∷ hs) os i h = inr (has_behind hs os i h)

pub has_item : (os : List Owner) (o : Owner) → Has os o → Has (items_of os) o.item
has_item [] o h = absurd h
has_item (x ∷ os) o h = ⊎_elim (λ (e : x ≡ o). inl (ap (λ (z : Owner). z.item) e)) (λ (t : Has os o). inr (has_item os o t)) h

module _ {V : Type 0} (hand : V → List Owner) (i : ℕ) where
  abbrev mine : V → ℕ
  mine v = times i (items_of (hand v))

  pub owned_set : (views : List V) (j : ℕ) (v v' : V) → At views j v → owned hand i (set views j v') + mine v ≡ owned hand i views + mine v'
  owned_set [] j v v' at = absurd (some-ne-none v (sym at))
  owned_set (x ∷ l) zero v v' at = let e : mine x ≡ mine v = ap mine (some-injective x v at) in omega arith
  owned_set (x ∷ l) (suc j) v v' at = let h = owned_set l j v v' at in omega arith

  pub owned_some : (views : List V) (j : ℕ) (v : V) → At views j v → mine v ≤ owned hand i views
  owned_some [] j v at = absurd (some-ne-none v (sym at))
  owned_some (x ∷ l) zero v at = let e : mine x ≡ mine v = ap mine (some-injective x v at) in omega arith
  owned_some (x ∷ l) (suc j) v at = let h = owned_some l j v at in omega arith

  pub owned_end : (views : List V) (v : V) → owned hand i (views ++ v ∷ []) ≡ owned hand i views + mine v
  owned_end [] v = omega arith
  owned_end (x ∷ l) v = let h = owned_end l v in omega arith

  pub mine_none : (v : V) → ((o : Owner) → Has (hand v) o → o.item ≢ i) → mine v ≡ 0
  mine_none v none = times_none i (items_of (hand v)) (λ h. let t = has_map (λ (o : Owner). o.item) (hand v) i h in none t.0 t.1 t.2)

  pub mine_some : (v : V) (o : Owner) → Has (hand v) o → o.item ≡ i → 0 < mine v
  mine_some v o h e = times_has i (items_of (hand v)) (subst (Has (items_of (hand v))) e (has_item (hand v) o h))

  -- no view has an owner of i
  pub owned_none : (views : List V) → ((j : ℕ) (v : V) (o : Owner) → At views j v → Has (hand v) o → o.item ≢ i) → owned hand i views ≡ 0
  owned_none [] none = refl
  owned_none (x ∷ l) none = let a = mine_none x (λ o h. none 0 x o refl h) in let b = owned_none l (λ j v o at h. none (suc j) v o at h) in omega arith
