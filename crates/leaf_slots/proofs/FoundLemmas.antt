-- What a look-up says of a search.
use Rattle.std.proofs.Common.{◌≡◌, ◌<◌, ◌∷◌, [], List, Bool, true, false, cond, length, refl, ap, ◌∙◌, sym, Option, Some, None}
use Rattle.std.specs.declared.cmp.Ordering.{Ordering}
use Rattle.std.specs.declared.cmp.Ordering.TheVariants.{Less, Equal, Greater}
use Rattle.std.specs.Option.{is_some}
use Rattle.std.specs.Cmp.{IsTotalOrder}
use Rattle.std.specs.List.Sorted.{IsStrictlySortedBy}
use Rattle.std.specs.Map.{keys_of, lookup, lookup_entry}
use Rattle.std.specs.BTreeMap.{is_at}
use Rattle.std.proofs.lemmas.Bool.{false≢true}
use Rattle.leaf_slots.specs.declared.place.Place.{Place}
use Rattle.leaf_slots.specs.Labels.{lesser}
use Rattle.leaf_slots.specs.Places.{live_pairs, live_below, least, IsHit, IsMiss}
use Rattle.leaf_slots.proofs.SearchLemmas.{least_not_lesser, missed}
use Rattle.leaf_slots.proofs.OrderLemmas.{below_lesser, found_entry, missing, hit_within}

none_is : {X : Type 0} (o : Option X) → is_some o ≡ false → o ≡ None
none_is None h = refl
none_is (Some x) h = cc

module _ {K V : Type 0} (cmp : K → K → Ordering) where
  pub has_entry : (test : K → Bool) (es : List (K × V)) → is_some (lookup test es) ≡ is_some (lookup_entry test es)
  has_entry test [] = refl
  has_entry test (e ∷ es) = elim (test e.0) as (λ b. is_some (cond b (Some e.1) (lookup test es)) ≡ is_some (cond b (Some e) (lookup_entry test es))) [ true ↦ refl | false ↦ has_entry test es ]

module _ {K V : Type 0} (cmp : K → K → Ordering) (laws : IsTotalOrder cmp) (key : K) where
  -- ---- what a look-up says of the search

  hit_or_miss : (ps : List (Place K V)) (o : Option (K × V)) → least cmp key ps ≡ o → is_some (lookup (is_at (cmp key)) (live_pairs ps)) ≡ true → IsStrictlySortedBy cmp (keys_of (live_pairs ps)) → IsHit cmp key ps
  hit_or_miss ps None e h so = let m = missing cmp laws key ps so (λ p q. absurd (let bad : None ≡ Some p = cc in let w = ap is_some bad in false≢true w)) in absurd (false≢true (ap is_some (sym m) ∙ h))
  hit_or_miss ps (Some p) e h so =
      (elim (cmp p.0 key) as (λ o. cmp p.0 key ≡ o → IsHit cmp key ps) [
        | Less ↦ λ o. absurd (let l = least_not_lesser cmp key ps p e in cc)
        | Equal ↦ λ o. (p, e, o)
        | Greater ↦ λ o.
            let m = missing cmp laws key ps so (missed cmp key ps p.0 p.1 e (λ q. cc)) in
            absurd (false≢true (ap is_some (sym m) ∙ h))
      ]) refl

  pub hit_from : (ps : List (Place K V)) → is_some (lookup (is_at (cmp key)) (live_pairs ps)) ≡ true → IsStrictlySortedBy cmp (keys_of (live_pairs ps)) → IsHit cmp key ps
  hit_from ps h so = hit_or_miss ps (least cmp key ps) refl h so

  pub has_from : (ps : List (Place K V)) → IsHit cmp key ps → is_some (lookup (is_at (cmp key)) (live_pairs ps)) ≡ true
  has_from ps h = has_entry cmp (is_at (cmp key)) (live_pairs ps) ∙ ap is_some (found_entry cmp laws key ps h.0 h.1 h.2)

  pub miss_from : (ps : List (Place K V)) → is_some (lookup (is_at (cmp key)) (live_pairs ps)) ≡ false → IsMiss cmp key ps
  miss_from ps h e found = missed cmp key ps e.0 e.1 found (λ q. false≢true (sym h ∙ has_from ps (e, found, q))) e found

  pub found_some : (ps : List (Place K V)) (k : K) (v : V) → least cmp key ps ≡ Some (k, v) → cmp k key ≡ Equal
      → (live_below cmp key ps ≡ lesser cmp key (live_pairs ps)) × (live_below cmp key ps < length (live_pairs ps)) × (lookup_entry (is_at (cmp key)) (live_pairs ps) ≡ Some (k, v))
  found_some ps k v e q = (below_lesser cmp key ps, hit_within cmp laws key ps ((k, v), e, q), found_entry cmp laws key ps (k, v) e q)

  pub found_none : (ps : List (Place K V)) → IsStrictlySortedBy cmp (keys_of (live_pairs ps)) → IsMiss cmp key ps → lookup_entry (is_at (cmp key)) (live_pairs ps) ≡ None
  found_none ps so m = none_is (lookup_entry (is_at (cmp key)) (live_pairs ps)) (sym (has_entry cmp (is_at (cmp key)) (live_pairs ps)) ∙ ap is_some (missing cmp laws key ps so m))

  pub missing_from : (ps : List (Place K V)) → IsStrictlySortedBy cmp (keys_of (live_pairs ps)) → IsMiss cmp key ps → is_some (lookup (is_at (cmp key)) (live_pairs ps)) ≡ false
  missing_from ps so m = ap is_some (missing cmp laws key ps so m)

  pub missed_all : (ps : List (Place K V)) → least cmp key ps ≡ None → IsMiss cmp key ps
  missed_all ps h e q = absurd (let bad : None ≡ Some e = cc in false≢true (ap is_some bad))
