-- Edits at the place where a search ends, in the words of maps.
use Rattle.std.proofs.Common.{arith, ◌≡◌, ℕ, suc, ◌<◌, ◌++◌, ◌∷◌, [], List, true, false, cond, length, take, drop, refl, ap, ◌∙◌, sym, Some, None}
use Rattle.std.specs.declared.cmp.Ordering.{Ordering}
use Rattle.std.specs.declared.cmp.Ordering.TheVariants.{Less, Equal, Greater}
use Rattle.std.specs.Ordering.{is_lt, is_eq}
use Rattle.std.specs.Cmp.{IsTotalOrder}
use Rattle.std.specs.List.Sorted.{IsStrictlySortedBy}
use Rattle.std.specs.Map.{keys_of, lookup, lookup_entry, remove_entry}
use Rattle.std.specs.BTreeMap.{insert_entry, is_at}
use Rattle.std.proofs.lemmas.Map.{lookup-none}
use Rattle.std.proofs.lemmas.Map.Entries.{none_below_head}
use Rattle.std.proofs.lemmas.Map.Keys.{sorted_head, sorted_tail}
use Rattle.leaf_slots.specs.declared.place.Place.{Place}
use Rattle.leaf_slots.specs.declared.place.Place.TheVariants.{Empty, Dead, Live}
use Rattle.leaf_slots.specs.Labels.{lesser}
use Rattle.leaf_slots.specs.Places.{live_pairs, renewed, live_below, least, IsHit, IsMiss}

less_of : (o : Ordering) → is_lt o ≡ true → o ≡ Less
less_of Less h = refl
less_of Equal h = cc
less_of Greater h = cc

module _ {K : Type 0} (cmp : K → K → Ordering) (laws : IsTotalOrder cmp) where
  pub turn_less : (x y : K) → cmp x y ≡ Less → cmp y x ≡ Greater
  turn_less x y h = rw h at (laws.antisymm y x)

  pub turn_greater : (x y : K) → cmp x y ≡ Greater → cmp y x ≡ Less
  turn_greater x y h = rw h at (laws.antisymm y x)

  pub turn_equal : (x y : K) → cmp x y ≡ Equal → cmp y x ≡ Equal
  turn_equal x y h = rw h at (laws.antisymm y x)

module _ {K V : Type 0} (cmp : K → K → Ordering) (key : K) where
  pub below_lesser : (ps : List (Place K V)) → live_below cmp key ps ≡ lesser cmp key (live_pairs ps)
  below_lesser [] = refl
  below_lesser (Empty ∷ ps) = refl
  below_lesser (Dead s k v ∷ ps) = refl
  below_lesser (Live s g k v ∷ ps) = ap (λ n. cond (is_lt (cmp k key)) (suc n) 0) (below_lesser ps)

module _ {K V : Type 0} (cmp : K → K → Ordering) (laws : IsTotalOrder cmp) (key : K) where
  -- ---- what a search says of a look-up

  pub found_entry : (ps : List (Place K V)) (e : K × V) → least cmp key ps ≡ Some e → cmp e.0 key ≡ Equal → lookup_entry (is_at (cmp key)) (live_pairs ps) ≡ Some e
  found_entry [] e = λ h q. cc
  found_entry (Empty ∷ ps) e = λ h q. cc
  found_entry (Dead s k v ∷ ps) e = λ h q. cc
  found_entry (Live s g k v ∷ ps) e =
      (elim (is_lt (cmp k key)) as (λ b. is_lt (cmp k key) ≡ b → cond b (least cmp key ps) (Some (k, v)) ≡ Some e → cmp e.0 key ≡ Equal
      → cond (is_eq (cmp key k)) (Some (k, v)) (lookup_entry (is_at (cmp key)) (live_pairs ps)) ≡ Some e) [
        | true ↦ λ b h q. let t = turn_less cmp laws k key (less_of (cmp k key) b) in rw t (found_entry ps e h q)
        | false ↦ λ b h q. let same : k ≡ e.0 = cc in let t : cmp key k ≡ Equal = rw same (turn_equal cmp laws e.0 key q) in rw t h
      ]) refl

  pub missing : (ps : List (Place K V)) → IsStrictlySortedBy cmp (keys_of (live_pairs ps)) → IsMiss cmp key ps → lookup (is_at (cmp key)) (live_pairs ps) ≡ None
  missing [] = λ so m. refl
  missing (Empty ∷ ps) = λ so m. refl
  missing (Dead s k v ∷ ps) = λ so m. refl
  missing (Live s g k v ∷ ps) =
      (elim (is_lt (cmp k key)) as (λ b. is_lt (cmp k key) ≡ b → IsStrictlySortedBy cmp (k ∷ keys_of (live_pairs ps)) → ((e : K × V) → cond b (least cmp key ps) (Some (k, v)) ≡ Some e → cmp e.0 key ≡ Greater)
      → lookup (is_at (cmp key)) ((k, v) ∷ live_pairs ps) ≡ None) [
        | true ↦ λ b so m. let t = turn_less cmp laws k key (less_of (cmp k key) b) in rw t (missing ps (sorted_tail cmp k (keys_of (live_pairs ps)) so) m)
        | false ↦ λ b so m. lookup-none (is_at (cmp key)) ((k, v) ∷ live_pairs ps) (none_below_head laws key (k, v) (live_pairs ps) so (turn_greater cmp laws k key (m (k, v) refl)))
      ]) refl

  pub hit_within : (ps : List (Place K V)) → IsHit cmp key ps → live_below cmp key ps < length (live_pairs ps)
  hit_within [] = λ h. absurd (let e : None ≡ Some h.0 = h.1 in cc)
  hit_within (Empty ∷ ps) = λ h. absurd (let e : None ≡ Some h.0 = h.1 in cc)
  hit_within (Dead s k v ∷ ps) = λ h. absurd (let e : None ≡ Some h.0 = h.1 in cc)
  hit_within (Live s g k v ∷ ps) =
      elim (is_lt (cmp k key)) as (λ b. ((e : K × V) × (cond b (least cmp key ps) (Some (k, v)) ≡ Some e) × (cmp e.0 key ≡ Equal)) → cond b (suc (live_below cmp key ps)) 0 < suc (length (live_pairs ps))) [
        | true ↦ λ h. omega (arith, hit_within ps h)
        | false ↦ λ h. omega arith
      ]

  -- ---- a new pair

  pub pairs_insert : (s h : ℕ) (val : V) (ps : List (Place K V)) → IsMiss cmp key ps
      → live_pairs (take (live_below cmp key ps) ps ++ Live s h key val ∷ drop (live_below cmp key ps) ps) ≡ insert_entry cmp (live_pairs ps) key val
  pairs_insert s h val [] = λ m. refl
  pairs_insert s h val (Empty ∷ ps) = λ m. refl
  pairs_insert s h val (Dead t k v ∷ ps) = λ m. refl
  pairs_insert s h val (Live t g k v ∷ ps) =
      (elim (is_lt (cmp k key)) as (λ b. is_lt (cmp k key) ≡ b → ((e : K × V) → cond b (least cmp key ps) (Some (k, v)) ≡ Some e → cmp e.0 key ≡ Greater)
      → live_pairs (take (cond b (suc (live_below cmp key ps)) 0) (Live t g k v ∷ ps) ++ Live s h key val ∷ drop (cond b (suc (live_below cmp key ps)) 0) (Live t g k v ∷ ps)) ≡ insert_entry cmp ((k, v) ∷ live_pairs ps) key val) [
        | true ↦ λ b m. let u = turn_less cmp laws k key (less_of (cmp k key) b) in rw u (ap (λ qs. (k, v) ∷ qs) (pairs_insert s h val ps m))
        | false ↦ λ b m. let u = turn_greater cmp laws k key (m (k, v) refl) in rw u refl
      ]) refl

  -- ---- another pair for the one of the key

  insert_front : (val : V) (es : List (K × V)) (k : K) → cmp k key ≡ Equal → IsStrictlySortedBy cmp (k ∷ keys_of es) → insert_entry cmp es key val ≡ (key, val) ∷ es
  insert_front val [] k q so = refl
  insert_front val (e ∷ es) k q so =
      let first = (sorted_head cmp k (keys_of (e ∷ es)) so).0 in
      let u : cmp key e.0 ≡ Less = sym (laws.congr k key e.0 q) ∙ first in
      rw u refl

  pub pairs_renew : (s : ℕ) (val : V) (ps : List (Place K V)) → IsStrictlySortedBy cmp (keys_of (live_pairs ps)) → IsHit cmp key ps
      → live_pairs (take (live_below cmp key ps) ps ++ renewed s key val (drop (live_below cmp key ps) ps)) ≡ insert_entry cmp (remove_entry (is_at (cmp key)) (live_pairs ps)) key val
  pairs_renew s val [] = λ so h. absurd (let e : None ≡ Some h.0 = h.1 in cc)
  pairs_renew s val (Empty ∷ ps) = λ so h. absurd (let e : None ≡ Some h.0 = h.1 in cc)
  pairs_renew s val (Dead t k v ∷ ps) = λ so h. absurd (let e : None ≡ Some h.0 = h.1 in cc)
  pairs_renew s val (Live t g k v ∷ ps) =
      (elim (is_lt (cmp k key)) as (λ b. is_lt (cmp k key) ≡ b → IsStrictlySortedBy cmp (k ∷ keys_of (live_pairs ps)) → ((e : K × V) × (cond b (least cmp key ps) (Some (k, v)) ≡ Some e) × (cmp e.0 key ≡ Equal))
      → live_pairs (take (cond b (suc (live_below cmp key ps)) 0) (Live t g k v ∷ ps) ++ renewed s key val (drop (cond b (suc (live_below cmp key ps)) 0) (Live t g k v ∷ ps)))
      ≡ insert_entry cmp (remove_entry (is_at (cmp key)) ((k, v) ∷ live_pairs ps)) key val) [
        | true ↦ λ b so h. let u = turn_less cmp laws k key (less_of (cmp k key) b) in rw u (rw u (ap (λ qs. (k, v) ∷ qs) (pairs_renew s val ps (sorted_tail cmp k (keys_of (live_pairs ps)) so) h)))
        | false ↦ λ b so h.
            let same : k ≡ h.0.0 = cc in
            let q : cmp k key ≡ Equal = rw same h.2 in
            let u : cmp key k ≡ Equal = turn_equal cmp laws k key q in
            rw u (sym (insert_front val (live_pairs ps) k q so))
      ]) refl
