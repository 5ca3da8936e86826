-- Strictly sorted pairs under edits, and what a look-up in them finds.
use Rattle.std.proofs.Common.{◌≡◌, ℕ, zero, suc, ◌∷◌, [], List, true, cond, refl, ap, Some}
use Rattle.std.specs.declared.cmp.Ordering.{Ordering}
use Rattle.std.specs.declared.cmp.Ordering.TheVariants.{Less, Equal, Greater}
use Rattle.std.specs.Ordering.{is_lt, is_eq, match_ordering}
use Rattle.std.specs.Option.{is_some}
use Rattle.std.specs.Cmp.{IsTotalOrder}
use Rattle.std.specs.List.{AllByRecursion, remove}
use Rattle.std.specs.List.Sorted.{IsStrictlySortedBy}
use Rattle.std.specs.Map.{keys_of, lookup, remove_entry}
use Rattle.std.specs.BTreeMap.{insert_entry, is_at}
use Rattle.leaf_array.specs.Cells.{lesser}
pub use Rattle.leaf_slots.proofs.FoundLemmas.{has_entry}
use Rattle.leaf_slots.proofs.OrderLemmas.{turn_less, turn_greater, turn_equal}

pub sorted_nil : {K : Type 0} (cmp : K → K → Ordering) → IsStrictlySortedBy cmp []
unfolding IsStrictlySortedBy
sorted_nil cmp = tt

module _ {K V : Type 0} (cmp : K → K → Ordering) where
  all_remove : (P : K → Type 0) (es : List (K × V)) (n : ℕ) → AllByRecursion P (keys_of es) → AllByRecursion P (keys_of (remove es n))
  all_remove P [] zero h = tt
  all_remove P [] (suc n) h = tt
  all_remove P (e ∷ es) zero h = h.1
  all_remove P (e ∷ es) (suc n) h = (h.0, all_remove P es n h.1)

  pub sorted_remove : (es : List (K × V)) (n : ℕ) → IsStrictlySortedBy cmp (keys_of es) → IsStrictlySortedBy cmp (keys_of (remove es n))
  unfolding IsStrictlySortedBy
  sorted_remove [] zero h = h
  sorted_remove [] (suc n) h = h
  sorted_remove (e ∷ es) zero h = h.1
  sorted_remove (e ∷ es) (suc n) h = (all_remove (λ y. cmp e.0 y ≡ Less) es n h.0, sorted_remove es n h.1)

  all_insert : (P : K → Type 0) (es : List (K × V)) (k : K) (v : V) → P k → AllByRecursion P (keys_of es) → AllByRecursion P (keys_of (insert_entry cmp es k v))
  all_insert P [] k v p h = (p, tt)
  all_insert P (e ∷ es) k v p h =
      elim (cmp k e.0) as (λ o. AllByRecursion P (keys_of (match_ordering o ((k, v) ∷ e ∷ es) ((e.0, v) ∷ es) (e ∷ insert_entry cmp es k v)))) [
        | Less ↦ (p, h)
        | Equal ↦ h
        | Greater ↦ (h.0, all_insert P es k v p h.1)
      ]

  module _ (laws : IsTotalOrder cmp) where
    all_above : (k y : K) (es : List (K × V)) → cmp k y ≡ Less → AllByRecursion (λ z. cmp y z ≡ Less) (keys_of es) → AllByRecursion (λ z. cmp k z ≡ Less) (keys_of es)
    all_above k y [] l h = tt
    all_above k y (e ∷ es) l h = (laws.trans k y e.0 l h.0, all_above k y es l h.1)

    pub sorted_insert : (es : List (K × V)) (k : K) (v : V) → IsStrictlySortedBy cmp (keys_of es) → IsStrictlySortedBy cmp (keys_of (insert_entry cmp es k v))
    unfolding IsStrictlySortedBy
    sorted_insert [] k v h = (tt, tt)
    sorted_insert (e ∷ es) k v h =
        (elim (cmp k e.0) as (λ o. cmp k e.0 ≡ o → IsStrictlySortedBy cmp (keys_of (match_ordering o ((k, v) ∷ e ∷ es) ((e.0, v) ∷ es) (e ∷ insert_entry cmp es k v)))) [
          | Less ↦ λ o. ((o, all_above k e.0 es o h.0), h)
          | Equal ↦ λ o. h
          | Greater ↦ λ o. (all_insert (λ y. cmp e.0 y ≡ Less) es k v (turn_greater cmp laws k e.0 o) h.0, sorted_insert es k v h.1)
        ]) refl

    -- ---- by the place of a key

    no_later : (es : List (K × V)) (k : K) → AllByRecursion (λ z. cmp k z ≡ Less) (keys_of es) → is_some (lookup (is_at (cmp k)) es) ≡ true → ⊥
    no_later [] k a h = cc
    no_later (e ∷ es) k a h = let u = a.0 in no_later es k a.1 (rw u at h)

    pub remove_at_key : (es : List (K × V)) (k : K) → is_some (lookup (is_at (cmp k)) es) ≡ true → IsStrictlySortedBy cmp (keys_of es) → remove es (lesser cmp k es) ≡ remove_entry (is_at (cmp k)) es
    unfolding IsStrictlySortedBy
    remove_at_key [] k = λ h so. refl
    remove_at_key (e ∷ es) k =
        (elim (cmp e.0 k) as (λ o. cmp e.0 k ≡ o → is_some (cond (is_eq (cmp k e.0)) (Some e.1) (lookup (is_at (cmp k)) es)) ≡ true → IsStrictlySortedBy cmp (keys_of (e ∷ es))
        → remove (e ∷ es) (cond (is_lt o) (suc (lesser cmp k es)) 0) ≡ cond (is_eq (cmp k e.0)) es (e ∷ remove_entry (is_at (cmp k)) es)) [
          | Less ↦ λ o. let u = turn_less cmp laws e.0 k o in rw u (λ h so. ap (λ qs. e ∷ qs) (remove_at_key es k h so.1))
          | Equal ↦ λ o. let u = turn_equal cmp laws e.0 k o in rw u (λ h so. refl)
          | Greater ↦ λ o. let u = turn_greater cmp laws e.0 k o in rw u (λ h so. absurd (no_later es k (all_above k e.0 es u so.0) h))
        ]) refl
