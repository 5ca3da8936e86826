-- Ascending lists: filtered, joined, with a pair at its place.
use Rattle.std.proofs.Common.{◌≡◌, Bool, true, false, cond, not, List, [], ◌∷◌, ◌++◌, Some, refl, sym, ap, ◌∙◌, subst}
use Rattle.std.proofs.lemmas.List.{map-append}
use Rattle.std.proofs.lemmas.List.Kept.{IsStrictlySortedBy-filter}
use Rattle.std.specs.BTreeMap.{is_at}
use Rattle.std.specs.Cmp.{IsTotalOrder, tied_itself}
use Rattle.std.specs.declared.cmp.Ordering.{Ordering}
use Rattle.std.specs.declared.cmp.Ordering.TheVariants.{Less, Equal, Greater}
use Rattle.std.specs.List.{AllByRecursion, filter}
use Rattle.std.specs.List.Sorted.{IsStrictlySortedBy}
use Rattle.std.specs.Map.{keys_of, lookup}
use Rattle.std.specs.Ordering.{is_gt, is_lt, ordering_reverse}
use Rattle.leaf_array.specs.Edits.{above, below, removed, upserted}
use Rattle.leaf_array.specs.Pairs.{IsAscending, value_of_key}

-- what each passing element has, each element of the filtered list has
all_filtered : {X : Type 0} (test : X → Bool) (P : X → Type 0) → ((x : X) → test x ≡ true → P x) → (xs : List X) → AllByRecursion P (filter test xs)
all_filtered test P h [] = tt
all_filtered test P h (x ∷ xs) =
    (elim (test x) as (λ b. test x ≡ b → AllByRecursion P (cond b (x ∷ filter test xs) (filter test xs))) [
      | true ↦ λ e. (h x e, all_filtered test P h xs)
      | false ↦ λ e. all_filtered test P h xs
    ]) refl

all_joined : {X : Type 0} (P : X → Type 0) (xs ys : List X) → AllByRecursion P xs → AllByRecursion P ys → AllByRecursion P (xs ++ ys)
all_joined P [] ys h k = k
all_joined P (x ∷ xs) ys h k = (h.0, all_joined P xs ys h.1 k)

keys_of-filter : {K V : Type 0} (test : K → Bool) (pairs : List (K × V)) → keys_of (filter (λ p. test p.0) pairs) ≡ filter test (keys_of pairs)
keys_of-filter test [] = refl
keys_of-filter test (p ∷ ps) =
    elim (test p.0) as (λ b. keys_of (cond b (p ∷ filter (λ q. test q.0) ps) (filter (λ q. test q.0) ps)) ≡ cond b (p.0 ∷ filter test (keys_of ps)) (filter test (keys_of ps))) [
      | true ↦ ap (λ ks. p.0 ∷ ks) (keys_of-filter test ps)
      | false ↦ keys_of-filter test ps
    ]

-- two ascending lists, each key of the first below each of the second
sorted_joined : {K : Type 0} (cmp : K → K → Ordering) (xs ys : List K) → IsStrictlySortedBy cmp xs → IsStrictlySortedBy cmp ys → AllByRecursion (λ x. AllByRecursion (λ y. cmp x y ≡ Less) ys) xs → IsStrictlySortedBy cmp (xs ++ ys)
unfolding IsStrictlySortedBy
sorted_joined cmp [] ys up up' between = up'
sorted_joined cmp (x ∷ xs) ys up up' between = (all_joined (λ y. cmp x y ≡ Less) xs ys up.0 between.0, sorted_joined cmp xs ys up.1 up' between.1)

sorted_under : {K : Type 0} (cmp : K → K → Ordering) (k : K) (ks : List K) → AllByRecursion (λ y. cmp k y ≡ Less) ks → IsStrictlySortedBy cmp ks → IsStrictlySortedBy cmp (k ∷ ks)
unfolding IsStrictlySortedBy
sorted_under cmp k ks under up = (under, up)

module _ {K : Type 0} {cmp : K → K → Ordering} (laws : IsTotalOrder cmp) where
  -- the key that another is above is below it
  turned : (x y : K) → is_gt (cmp x y) ≡ true → cmp y x ≡ Less
  turned x y e =
      (elim (cmp x y) as (λ o. cmp x y ≡ o → is_gt o ≡ true → cmp y x ≡ Less) [
        | Less ↦ λ o h. absurd cc
        | Equal ↦ λ o h. absurd cc
        | Greater ↦ λ o h. laws.antisymm y x ∙ ap ordering_reverse o
      ]) refl e

  less : (x y : K) → is_lt (cmp x y) ≡ true → cmp x y ≡ Less
  less x y e =
      (elim (cmp x y) as (λ o. is_lt o ≡ true → o ≡ Less) [
        | Less ↦ λ h. refl
        | Equal ↦ λ h. absurd cc
        | Greater ↦ λ h. absurd cc
      ]) e

  module _ {V : Type 0} where
    pub IsAscending-removed : (key : K) (pairs : List (K × V)) → IsAscending cmp pairs → IsAscending cmp (removed cmp key pairs)
    IsAscending-removed key pairs up = rw (keys_of-filter (λ k. not (is_at (cmp key) k)) pairs) (IsStrictlySortedBy-filter cmp _ (keys_of pairs) up)

    pub IsAscending-upserted : (key : K) (value : V) (pairs : List (K × V)) → IsAscending cmp pairs → IsAscending cmp (upserted cmp key value pairs)
    IsAscending-upserted key value pairs up =
        let ks : List K = keys_of pairs in
        let lower : List K = filter (λ k. is_gt (cmp key k)) ks in
        let upper : List K = filter (λ k. is_lt (cmp key k)) ks in
        let keys : keys_of (upserted cmp key value pairs) ≡ lower ++ key ∷ upper =
        map-append (λ (p : K × V). p.0) (below cmp key pairs) ((key, value) ∷ above cmp key pairs)
        ∙ rw (keys_of-filter (λ k. is_gt (cmp key k)) pairs, keys_of-filter (λ k. is_lt (cmp key k)) pairs) refl in
        let under : AllByRecursion (λ y. cmp key y ≡ Less) upper = all_filtered (λ k. is_lt (cmp key k)) (λ y. cmp key y ≡ Less) (less key) ks in
        let between : AllByRecursion (λ x. AllByRecursion (λ y. cmp x y ≡ Less) (key ∷ upper)) lower =
        all_filtered (λ k. is_gt (cmp key k)) (λ x. AllByRecursion (λ y. cmp x y ≡ Less) (key ∷ upper))
        (λ x e. (turned key x e, all_filtered (λ k. is_lt (cmp key k)) (λ y. cmp x y ≡ Less) (λ y f. laws.trans x key y (turned key x e) (less key y f)) ks)) ks in
        subst (IsStrictlySortedBy cmp) (sym keys)
        (sorted_joined cmp lower (key ∷ upper) (IsStrictlySortedBy-filter cmp _ ks up) (sorted_under cmp key upper under (IsStrictlySortedBy-filter cmp _ ks up)) between)

    -- no pair in front of the key's place has the key
    lookup-below : (key : K) (pairs rest : List (K × V)) → lookup (is_at (cmp key)) (below cmp key pairs ++ rest) ≡ lookup (is_at (cmp key)) rest
    lookup-below key [] rest = refl
    lookup-below key (p ∷ ps) rest =
        (elim (cmp key p.0) as (λ o. cmp key p.0 ≡ o → lookup (is_at (cmp key)) (cond (is_gt o) (p ∷ below cmp key ps) (below cmp key ps) ++ rest) ≡ lookup (is_at (cmp key)) rest) [
          | Less ↦ λ e. lookup-below key ps rest
          | Equal ↦ λ e. lookup-below key ps rest
          | Greater ↦ λ e. rw e (lookup-below key ps rest)
        ]) refl

    pub value_of_key-upserted : (key : K) (value : V) (pairs : List (K × V)) → value_of_key cmp key (upserted cmp key value pairs) ≡ Some value
    value_of_key-upserted key value pairs = lookup-below key pairs ((key, value) ∷ above cmp key pairs) ∙ rw (tied_itself laws key) refl
