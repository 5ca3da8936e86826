-- a key is sought in the block that its separators name
use Rattle.std.proofs.Common.{get_or, map, ◌≡◌, ◌≢◌, ℕ, zero, suc, ◌+◌, ◌-◌, ◌<◌, ◌≤◌, Option, None, Some, List, [], ◌∷◌, ◌++◌, length, take, drop, slice_get, refl, sym, ap, ◌∙◌, arith, subst, append_assoc, append-nil, inl, inr, ◌⊎◌}
use Rattle.std.specs.declared.cmp.Ordering.{Ordering}
use Rattle.std.specs.declared.cmp.Ordering.TheVariants.{Less, Equal, Greater}
use Rattle.std.specs.Cmp.{IsTotalOrder}
use Rattle.std.specs.Ordering.{is_gt, ordering_reverse}
use Rattle.std.specs.List.Sorted.{IsStrictlySortedBy}
use Rattle.std.specs.List.{AllByRecursion}
use Rattle.std.specs.Map.{keys_of}
use Rattle.std.specs.Option.{option_map}
use Rattle.std.proofs.lemmas.Option.{slice_get-map, slice_get_within}
use Rattle.std.proofs.lemmas.Map.Keys.{sorted_head}
use Rattle.leaf_array.specs.Pairs.{IsAscending}
use Rattle.tree_index.specs.Shape.{AllKeys}
use Rattle.tree_index.proofs.ShapeLemmas.{upto_less}
use Rattle.std.specs.List.{filter_map}
use Rattle.version_views.specs.Cuts.{pairs_in, greatest_key, separators_of, IsSeparated}
use Rattle.version_views.specs.SeparatorSearch.{IsPlaceOf}
use Rattle.version_views.proofs.FilterLemmas.{rising_front, rising_rear}

taken_get : {X : Type 0} (xs : List X) (n i : ℕ) → i < n → slice_get (take n xs) i ≡ slice_get xs i
taken_get [] zero i h = refl
taken_get [] (suc n) i h = refl
taken_get (x ∷ xs) zero i h = absurd (omega (arith, h))
taken_get (x ∷ xs) (suc n) zero h = refl
taken_get (x ∷ xs) (suc n) (suc i) h = taken_get xs n i (omega (arith, h))

pub get_some : {X : Type 0} (xs : List X) (i : ℕ) → i < length xs → (x : X) × (slice_get xs i ≡ Some x)
get_some [] i h = absurd (omega (arith, h))
get_some (x ∷ xs) zero h = (x, refl)
get_some (x ∷ xs) (suc i) h = get_some xs i (omega (arith, h))

pub got_mapped : {X Y : Type 0} (f : X → Y) (xs : List X) (i : ℕ) (d : X) → i < length xs → slice_get (map f xs) i ≡ Some (f (get_or xs i d))
got_mapped f [] i d h = absurd (omega (arith, h))
got_mapped f (x ∷ xs) zero d h = refl
got_mapped f (x ∷ xs) (suc i) d h = got_mapped f xs i d (omega (arith, h))

pub le_or : (i n : ℕ) → (n ≤ suc i) ⊎ (i + 1 < n)
le_or i zero = inl (omega arith)
le_or i (suc zero) = inl (omega arith)
le_or zero (suc (suc n)) = inr (omega arith)
le_or (suc i) (suc (suc n)) = elim (le_or i (suc n)) [
  | inl h ↦ inl (omega (arith, h))
  | inr h ↦ inr (omega (arith, h))
]

module _ {K V : Type 0} where
  -- a list with a last element ends in it
  last_split : (xs : List (K × V)) (p : K × V) → slice_get xs (length xs - 1) ≡ Some p → (ys : List (K × V)) × (xs ≡ ys ++ p ∷ [])
  last_split [] p e = absurd (cc)
  last_split (x ∷ []) p e = ([], ap (λ q. q ∷ []) (some_same x p e))
    where
      some_same : (x p : K × V) → Some x ≡ Some p → x ≡ p
      some_same x p e = cc
  last_split (x ∷ y ∷ ys) p e =
      let less : length (x ∷ y ∷ ys) - 1 ≡ suc (length (y ∷ ys) - 1) = omega arith in
      let r = last_split (y ∷ ys) p (sym (ap (slice_get (x ∷ y ∷ ys)) less) ∙ e) in
      (x ∷ r.0, ap (λ zs. x ∷ zs) r.1)

  -- blocks, around one of them
  pub around_block : (blocks : List (List (K × V))) (i : ℕ) (b : List (K × V)) → slice_get blocks i ≡ Some b → pairs_in blocks ≡ pairs_in (take i blocks) ++ (b ++ pairs_in (drop (suc i) blocks))
  around_block [] i b e = absurd (cc)
  around_block (c ∷ bs) zero b e = ap (λ x. x ++ pairs_in bs) (some_same c b e)
    where
      some_same : (x p : List (K × V)) → Some x ≡ Some p → x ≡ p
      some_same x p e = cc
  around_block (c ∷ bs) (suc i) b e = ap (λ x. c ++ x) (around_block bs i b e) ∙ sym (append_assoc c (pairs_in (take i bs)) (b ++ pairs_in (drop (suc i) bs)))

  -- the blocks up to one of them end in it
  pub up_to_block : (blocks : List (List (K × V))) (i : ℕ) (b : List (K × V)) → slice_get blocks i ≡ Some b → pairs_in (take (suc i) blocks) ≡ pairs_in (take i blocks) ++ b
  up_to_block [] i b e = absurd (cc)
  up_to_block (c ∷ bs) zero b e = append-nil c ∙ some_same c b e
    where
      some_same : (x p : List (K × V)) → Some x ≡ Some p → x ≡ p
      some_same x p e = cc
  up_to_block (c ∷ bs) (suc i) b e = ap (λ x. c ++ x) (up_to_block bs i b e) ∙ sym (append_assoc c (pairs_in (take i bs)) b)

  no_blocks_behind : (blocks : List (List (K × V))) (i : ℕ) → length blocks ≤ suc i → pairs_in (drop (suc i) blocks) ≡ []
  no_blocks_behind [] i h = refl
  no_blocks_behind (c ∷ []) zero h = refl
  no_blocks_behind (c ∷ d ∷ bs) zero h = absurd (omega (arith, h))
  no_blocks_behind (c ∷ bs) (suc i) h = no_blocks_behind bs i (omega (arith, h))

  -- the separator at a place is the greatest key of the block there
  pub separator_at : (blocks : List (List (K × V))) (keys : List K) (i : ℕ) → IsSeparated blocks keys → i + 1 < length blocks → option_map Some (slice_get keys i) ≡ option_map greatest_key (slice_get blocks i)
  separator_at blocks keys i sep h =
      sym (slice_get-map Some keys i)
      ∙ ap (λ xs. slice_get xs i) sep
      ∙ slice_get-map greatest_key (take (length blocks - 1) blocks) i
      ∙ ap (option_map greatest_key) (taken_get blocks (length blocks - 1) i (omega (arith, h)))

  module _ (cmp : K → K → Ordering) (o : IsTotalOrder cmp) where
    last_above : (x : K × V) (xs : List (K × V)) (p : K × V) (ys : List (K × V)) → AllByRecursion (λ y. cmp x.0 y ≡ Less) (keys_of (xs ++ p ∷ ys)) → cmp x.0 p.0 ≡ Less
    last_above x [] p ys a = a.0
    last_above x (z ∷ xs) p ys a = last_above x xs p ys a.1

    -- what ends below the key is below it
    before_end : (key : K) (xs : List (K × V)) (p : K × V) → IsAscending cmp (xs ++ p ∷ []) → cmp p.0 key ≡ Less → AllKeys (λ k. cmp k key ≡ Less) (xs ++ p ∷ [])
    unfolding IsStrictlySortedBy
    before_end key [] p h e = (e, tt)
    before_end key (x ∷ xs) p h e = (o.trans x.0 p.0 key (last_above x xs p [] h.0) e, before_end key xs p h.1 e)

    -- what begins behind a pair that isn't below the key is above it
    behind_end : (key : K) (p : K × V) (ys : List (K × V)) → AllByRecursion (λ y. cmp p.0 y ≡ Less) (keys_of ys) → cmp p.0 key ≢ Less → AllKeys (λ k. cmp key k ≡ Less) ys
    behind_end key p [] a ne = tt
    behind_end key p (y ∷ ys) a ne = (above (cmp p.0 key) refl, behind_end key p ys a.1 ne)
      where
        above : (r : Ordering) → cmp p.0 key ≡ r → cmp key y.0 ≡ Less
        above Less e = absurd (ne e)
        above Equal e = upto_less o key p.0 y.0 (ap is_gt (o.antisymm key p.0 ∙ ap ordering_reverse e)) a.0
        above Greater e = upto_less o key p.0 y.0 (ap is_gt (o.antisymm key p.0 ∙ ap ordering_reverse e)) a.0

    module _ (key : K) (blocks : List (List (K × V))) (keys : List K) (sep : IsSeparated blocks keys) (rising : IsAscending cmp (pairs_in blocks)) where
      -- a block before the last ends in its separator
      ends_in : (j : ℕ) → j + 1 < length blocks → (c : List (K × V)) × (p : K × V) × (ys : List (K × V)) × (slice_get blocks j ≡ Some c) × (slice_get keys j ≡ Some p.0) × (c ≡ ys ++ p ∷ [])
      ends_in j h =
          let c = get_some blocks j (omega (arith, h)) in
          let k = key_named (slice_get keys j) (greatest_key c.0) (separator_at blocks keys j sep h ∙ ap (option_map greatest_key) c.1) in
          let p = pair_named (slice_get c.0 (length c.0 - 1)) k.0 k.2 in
          let y = last_split c.0 p.0 p.1 in
          (c.0, p.0, y.0, c.1, k.1 ∙ ap (λ (x : K). Some x) (sym p.2), y.1)
        where
          key_named : (o : Option K) (q : Option K) → option_map Some o ≡ Some q → (k : K) × (o ≡ Some k) × (q ≡ Some k)
          key_named None q e = absurd (cc)
          key_named (Some k) q e = (k, refl, cc)

          pair_named : (o : Option (K × V)) (k : K) → option_map (λ p. p.0) o ≡ Some k → (p : K × V) × (o ≡ Some p) × (p.0 ≡ k)
          pair_named None k e = absurd (cc)
          pair_named (Some p) k e = (p, refl, cc)

      pub front_below : (place : ℕ) (b : List (K × V)) → IsPlaceOf cmp key keys place → slice_get blocks place ≡ Some b → AllKeys (λ k. cmp k key ≡ Less) (pairs_in (take place blocks))
      front_below zero b at here = tt
      front_below (suc j) b at here =
          let inside = slice_get_within blocks (suc j) b here in
          let e = ends_in j (omega (arith, inside)) in
          let is : pairs_in (take (suc j) blocks) ≡ (pairs_in (take j blocks) ++ e.2) ++ e.1 ∷ [] = up_to_block blocks j e.0 e.3 ∙ ap (λ c. pairs_in (take j blocks) ++ c) e.5 ∙ sym (append_assoc (pairs_in (take j blocks)) e.2 (e.1 ∷ [])) in
          let whole = around_block blocks (suc j) b here in
          let up : IsAscending cmp (pairs_in (take (suc j) blocks)) = rising_front cmp (pairs_in (take (suc j) blocks)) (b ++ pairs_in (drop (suc (suc j)) blocks)) (subst (IsAscending cmp) whole rising) in
          subst (λ ps. AllKeys (λ k. cmp k key ≡ Less) ps) (sym is) (before_end key (pairs_in (take j blocks) ++ e.2) e.1 (subst (IsAscending cmp) is up) (at.before j e.1.0 (omega arith) e.4))

      pub back_above : (place : ℕ) (b : List (K × V)) → IsPlaceOf cmp key keys place → slice_get blocks place ≡ Some b → AllKeys (λ k. cmp key k ≡ Less) (pairs_in (drop (suc place) blocks))
      back_above place b at here = elim (le_or place (length blocks)) [
        | inl last ↦ subst (λ ps. AllKeys (λ k. cmp key k ≡ Less) ps) (sym (no_blocks_behind blocks place last)) tt
        | inr more ↦
            let e = ends_in place more in
            let back = pairs_in (drop (suc place) blocks) in
            let same : b ≡ e.2 ++ e.1 ∷ [] = some_block b e.0 (sym here ∙ e.3) ∙ e.5 in
            let whole = around_block blocks place b here in
            let up : IsAscending cmp (b ++ back) = rising_rear cmp (pairs_in (take place blocks)) (b ++ back) (subst (IsAscending cmp) whole rising) in
            let split : b ++ back ≡ e.2 ++ (e.1 ∷ back) = ap (λ c. c ++ back) same ∙ append_assoc e.2 (e.1 ∷ []) back in
            let tail : IsAscending cmp (e.1 ∷ back) = rising_rear cmp e.2 (e.1 ∷ back) (subst (IsAscending cmp) split up) in
            behind_end key e.1 back (sorted_head cmp e.1.0 (keys_of back) tail) (at.behind e.1.0 e.4)
      ]
        where
          some_block : (x p : List (K × V)) → Some x ≡ Some p → x ≡ p
          some_block x p e = cc

-- keys that are separators of blocks are their greatest ones
module _ {K V : Type 0} where
  greatest_of : (keys : List K) (bs : List (List (K × V))) → map Some keys ≡ map greatest_key bs → keys ≡ filter_map greatest_key bs
  greatest_of [] [] e = refl
  greatest_of [] (b ∷ bs) e = absurd (cc)
  greatest_of (k ∷ ks) [] e = absurd (cc)
  greatest_of (k ∷ ks) (b ∷ bs) e =
      let first : greatest_key b ≡ Some k = cc in
      let rest : map Some ks ≡ map greatest_key bs = cc in
      rw first (ap (λ xs. k ∷ xs) (greatest_of ks bs rest))

  pub separators_are : (blocks : List (List (K × V))) (keys : List K) → IsSeparated blocks keys → keys ≡ separators_of blocks
  separators_are blocks keys e = greatest_of keys (take (length blocks - 1) blocks) e
