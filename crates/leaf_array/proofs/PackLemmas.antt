-- Rows that are cut and numbered anew.
use Rattle.std.proofs.Common.{arith, ◌≡◌, ℕ, zero, suc, ◌+◌, ◌-◌, ◌==◌, ◌<◌, ◌≤◌, ◌++◌, ◌∷◌, [], List, Bool, true, false, cond, length, take, drop, refl, ap, ◌∙◌, sym, Some, None, IsSome, slice_get, slice_index_or, length-take, length-drop, min}
use Rattle.std.specs.declared.cmp.Ordering.{Ordering}
use Rattle.std.specs.declared.cmp.Ordering.TheVariants.{Less}
use Rattle.std.specs.Ordering.{is_lt}
use Rattle.std.specs.List.{AllByRecursion}
use Rattle.std.specs.List.Sorted.{IsStrictlySortedBy}
use Rattle.std.specs.Map.{keys_of}
use Rattle.leaf_slots.specs.declared.place.Place.{Place}
use Rattle.leaf_slots.specs.declared.place.Place.TheVariants.{Empty, Dead, Live}
use Rattle.leaf_array.specs.Cells.{lesser, slot_of, fresh_labels, filled_array}
use Rattle.leaf_slots.specs.Places.{live_pair, live_pairs, labels_above, dead_pairs, repacked, front_vacated, least, top, slot_uses, no_half, no_places, IsEmptied, IsDeparted, IsPacked}
use Rattle.leaf_array.specs.Arrays.{uses_below, IsArray, cells_of}
use Rattle.leaf_slots.proofs.CutLemmas.{emptied_take}

pub past_end : {X : Type 0} (xs : List X) (n : ℕ) → length xs ≤ n → slice_get xs n ≡ None
past_end [] zero le = refl
past_end [] (suc n) le = refl
past_end (x ∷ xs) zero le = absurd (omega (arith, le))
past_end (x ∷ xs) (suc n) le = past_end xs n (omega (arith, le))

length-take-le : {X : Type 0} (n : ℕ) (xs : List X) → n ≤ length xs → length (take n xs) ≡ n
length-take-le zero xs le = refl
length-take-le (suc n) [] le = absurd (omega (arith, le))
length-take-le (suc n) (x ∷ xs) le = ap suc (length-take-le n xs (omega (arith, le)))

pub within_some : {X : Type 0} (xs : List X) (n : ℕ) → n < length xs → IsSome (slice_get xs n)
within_some [] n lt = absurd (omega (arith, lt))
within_some (x ∷ xs) zero lt = refl
within_some (x ∷ xs) (suc n) lt = within_some xs n (omega (arith, lt))

module _ {K V : Type 0} where
  emptied_get : (n : ℕ) (ps : List (Place K V)) → IsEmptied ps → live_pair (slice_index_or ps n Empty) ≡ None
  emptied_get zero [] h = refl
  emptied_get (suc n) [] h = refl
  emptied_get zero (Empty ∷ ps) h = refl
  emptied_get (suc n) (Empty ∷ ps) h = emptied_get n ps h
  emptied_get n (Dead s k v ∷ ps) h = absurd h
  emptied_get n (Live s g k v ∷ ps) h = absurd h

  departed_get : (n : ℕ) (ps : List (Place K V)) → IsDeparted ps → live_pair (slice_index_or ps n Empty) ≡ None
  departed_get zero [] h = refl
  departed_get (suc n) [] h = refl
  departed_get zero (Empty ∷ ps) h = refl
  departed_get (suc n) (Empty ∷ ps) h = emptied_get n ps h
  departed_get zero (Dead s k v ∷ ps) h = refl
  departed_get (suc n) (Dead s k v ∷ ps) h = departed_get n ps h
  departed_get n (Live s g k v ∷ ps) h = absurd h

  pub live_get : (n : ℕ) (ps : List (Place K V)) → IsPacked ps → live_pair (slice_index_or ps n Empty) ≡ slice_get (live_pairs ps) n
  live_get zero [] h = refl
  live_get (suc n) [] h = refl
  live_get zero (Empty ∷ ps) h = refl
  live_get (suc n) (Empty ∷ ps) h = emptied_get n ps h
  live_get zero (Dead s k v ∷ ps) h = refl
  live_get (suc n) (Dead s k v ∷ ps) h = departed_get n ps h
  live_get zero (Live s g k v ∷ ps) h = refl
  live_get (suc n) (Live s g k v ∷ ps) h = live_get n ps h

  pub least_at : (cmp : K → K → Ordering) (key : K) (ps : List (Place K V)) → least cmp key ps ≡ slice_get (live_pairs ps) (lesser cmp key (live_pairs ps))
  least_at cmp key [] = refl
  least_at cmp key (Empty ∷ ps) = refl
  least_at cmp key (Dead s k v ∷ ps) = refl
  least_at cmp key (Live s g k v ∷ ps) =
      elim (is_lt (cmp k key)) as (λ b. cond b (least cmp key ps) (Some (k, v)) ≡ slice_get ((k, v) ∷ live_pairs ps) (cond b (suc (lesser cmp key (live_pairs ps))) 0)) [
        | true ↦ least_at cmp key ps
        | false ↦ refl
      ]

  -- ---- numbered anew

  emptied_live : (ps : List (Place K V)) → IsEmptied ps → live_pairs ps ≡ []
  emptied_live [] h = refl
  emptied_live (Empty ∷ ps) h = refl
  emptied_live (Dead s k v ∷ ps) h = refl
  emptied_live (Live s g k v ∷ ps) h = absurd h

  emptied_packed : (n : ℕ) (ps : List (Place K V)) → IsEmptied ps → IsEmptied (repacked n ps)
  emptied_packed n [] h = tt
  emptied_packed n (Empty ∷ ps) h = emptied_packed (n + 1) ps h
  emptied_packed n (Dead s k v ∷ ps) h = absurd h
  emptied_packed n (Live s g k v ∷ ps) h = absurd h

  departed_packed : (n : ℕ) (ps : List (Place K V)) → IsDeparted ps → IsEmptied (repacked n ps)
  departed_packed n [] h = tt
  departed_packed n (Empty ∷ ps) h = emptied_packed (n + 1) ps h
  departed_packed n (Dead s k v ∷ ps) h = departed_packed (n + 1) ps h
  departed_packed n (Live s g k v ∷ ps) h = absurd h

  pub packed_packed : (n : ℕ) (ps : List (Place K V)) → IsPacked ps → IsPacked (repacked n ps)
  packed_packed n [] h = tt
  packed_packed n (Empty ∷ ps) h = emptied_packed (n + 1) ps h
  packed_packed n (Dead s k v ∷ ps) h = departed_packed (n + 1) ps h
  packed_packed n (Live s g k v ∷ ps) h = packed_packed (n + 1) ps h

  pub live_packed : (n : ℕ) (ps : List (Place K V)) → IsPacked ps → live_pairs (repacked n ps) ≡ live_pairs ps
  live_packed n [] h = refl
  live_packed n (Empty ∷ ps) h = refl
  live_packed n (Dead s k v ∷ ps) h = refl
  live_packed n (Live s g k v ∷ ps) h = ap (λ qs. (k, v) ∷ qs) (live_packed (n + 1) ps h)

  pub labels_packed : (n : ℕ) (ps : List (Place K V)) → labels_above n (repacked n ps) ≡ fresh_labels n (length (live_pairs ps))
  labels_packed n [] = refl
  labels_packed n (Empty ∷ ps) = refl
  labels_packed n (Dead s k v ∷ ps) = refl
  labels_packed n (Live s g k v ∷ ps) = let e : n + 0 + 1 ≡ n + 1 = omega arith in rw e (ap (λ ls. (slot_of n, n + 1) ∷ ls) (labels_packed (n + 1) ps))

  pub dead_packed : (n : ℕ) (ps : List (Place K V)) → dead_pairs (repacked n ps) ≡ []
  dead_packed n [] = refl
  dead_packed n (Empty ∷ ps) = dead_packed (n + 1) ps
  dead_packed n (Dead s k v ∷ ps) = dead_packed (n + 1) ps
  dead_packed n (Live s g k v ∷ ps) = dead_packed (n + 1) ps

  pub top_packed : (n : ℕ) (ps : List (Place K V)) → top (repacked n ps) ≡ length (live_pairs ps)
  top_packed n [] = refl
  top_packed n (Empty ∷ ps) = refl
  top_packed n (Dead s k v ∷ ps) = refl
  top_packed n (Live s g k v ∷ ps) = omega (arith, top_packed (n + 1) ps)

  uses_emptied : (slot : ℕ) (ps : List (Place K V)) → IsEmptied ps → slot_uses slot ps ≡ 0
  uses_emptied slot [] h = refl
  uses_emptied slot (Empty ∷ ps) h = uses_emptied slot ps h
  uses_emptied slot (Dead s k v ∷ ps) h = absurd h
  uses_emptied slot (Live s g k v ∷ ps) h = absurd h

  pub uses_packed : (slot n : ℕ) (ps : List (Place K V)) → IsPacked ps → slot_uses slot (repacked n ps) + uses_below slot n ≡ uses_below slot (n + length (live_pairs ps))
  uses_packed slot n [] h = let e : n + 0 ≡ n = omega arith in rw e (omega arith)
  uses_packed slot n (Empty ∷ ps) h = let e : n + 0 ≡ n = omega arith in rw e (omega (arith, uses_emptied slot (repacked (n + 1) ps) (emptied_packed (n + 1) ps h)))
  uses_packed slot n (Dead s k v ∷ ps) h = let e : n + 0 ≡ n = omega arith in rw e (omega (arith, uses_emptied slot (repacked (n + 1) ps) (departed_packed (n + 1) ps h)))
  uses_packed slot n (Live s g k v ∷ ps) h =
      let e : n + suc (length (live_pairs ps)) ≡ n + 1 + length (live_pairs ps) = omega arith in
      let e1 : uses_below slot (n + 1) ≡ cond (slot_of n == slot) 1 0 + uses_below slot n = let e2 : n + 1 ≡ suc n = omega arith in ap (uses_below slot) e2 in
      rw e (omega (arith, uses_packed slot (n + 1) ps h, e1))

  pub length_packed : (n : ℕ) (ps : List (Place K V)) → length (repacked n ps) ≡ length ps
  length_packed n [] = refl
  length_packed n (Empty ∷ ps) = omega (arith, length_packed (n + 1) ps)
  length_packed n (Dead s k v ∷ ps) = omega (arith, length_packed (n + 1) ps)
  length_packed n (Live s g k v ∷ ps) = omega (arith, length_packed (n + 1) ps)

  -- ---- cut

  emptied_join : (ps qs : List (Place K V)) → IsEmptied ps → IsEmptied qs → IsEmptied (ps ++ qs)
  emptied_join [] qs h e = e
  emptied_join (Empty ∷ ps) qs h e = emptied_join ps qs h e
  emptied_join (Dead s k v ∷ ps) qs h e = absurd h
  emptied_join (Live s g k v ∷ ps) qs h e = absurd h

  departed_join : (ps qs : List (Place K V)) → IsDeparted ps → IsEmptied qs → IsDeparted (ps ++ qs)
  departed_join [] [] h e = tt
  departed_join [] (Empty ∷ qs) h e = e
  departed_join [] (Dead s k v ∷ qs) h e = absurd e
  departed_join [] (Live s g k v ∷ qs) h e = absurd e
  departed_join (Empty ∷ ps) qs h e = emptied_join ps qs h e
  departed_join (Dead s k v ∷ ps) qs h e = departed_join ps qs h e
  departed_join (Live s g k v ∷ ps) qs h e = absurd h

  pub packed_join : (ps qs : List (Place K V)) → IsPacked ps → IsEmptied qs → IsPacked (ps ++ qs)
  packed_join [] [] h e = tt
  packed_join [] (Empty ∷ qs) h e = e
  packed_join [] (Dead s k v ∷ qs) h e = absurd e
  packed_join [] (Live s g k v ∷ qs) h e = absurd e
  packed_join (Empty ∷ ps) qs h e = emptied_join ps qs h e
  packed_join (Dead s k v ∷ ps) qs h e = departed_join ps qs h e
  packed_join (Live s g k v ∷ ps) qs h e = packed_join ps qs h e

  pub live_join : (ps qs : List (Place K V)) → IsEmptied qs → live_pairs (ps ++ qs) ≡ live_pairs ps
  live_join [] qs e = emptied_live qs e
  live_join (Empty ∷ ps) qs e = refl
  live_join (Dead s k v ∷ ps) qs e = refl
  live_join (Live s g k v ∷ ps) qs e = ap (λ rs. (k, v) ∷ rs) (live_join ps qs e)

  emptied_drop : (n : ℕ) (ps : List (Place K V)) → IsEmptied ps → IsEmptied (drop n ps)
  emptied_drop zero ps h = h
  emptied_drop (suc n) [] h = tt
  emptied_drop (suc n) (Empty ∷ ps) h = emptied_drop n ps h
  emptied_drop (suc n) (Dead s k v ∷ ps) h = absurd h
  emptied_drop (suc n) (Live s g k v ∷ ps) h = absurd h

  departed_emptied : (ps : List (Place K V)) → IsEmptied ps → IsDeparted ps
  departed_emptied [] h = tt
  departed_emptied (Empty ∷ ps) h = h
  departed_emptied (Dead s k v ∷ ps) h = absurd h
  departed_emptied (Live s g k v ∷ ps) h = absurd h

  departed_drop : (n : ℕ) (ps : List (Place K V)) → IsDeparted ps → IsDeparted (drop n ps)
  departed_drop zero ps h = h
  departed_drop (suc n) [] h = tt
  departed_drop (suc n) (Empty ∷ ps) h = departed_emptied (drop n ps) (emptied_drop n ps h)
  departed_drop (suc n) (Dead s k v ∷ ps) h = departed_drop n ps h
  departed_drop (suc n) (Live s g k v ∷ ps) h = absurd h

  packed_departed : (ps : List (Place K V)) → IsDeparted ps → IsPacked ps
  packed_departed [] h = tt
  packed_departed (Empty ∷ ps) h = h
  packed_departed (Dead s k v ∷ ps) h = h
  packed_departed (Live s g k v ∷ ps) h = absurd h

  departed_live : (ps : List (Place K V)) → IsDeparted ps → live_pairs ps ≡ []
  departed_live [] h = refl
  departed_live (Empty ∷ ps) h = refl
  departed_live (Dead s k v ∷ ps) h = refl
  departed_live (Live s g k v ∷ ps) h = absurd h

  pub packed_drop : (n : ℕ) (ps : List (Place K V)) → IsPacked ps → IsPacked (drop n ps)
  packed_drop zero ps h = h
  packed_drop (suc n) [] h = tt
  packed_drop (suc n) (Empty ∷ ps) h = packed_departed (drop n ps) (departed_emptied (drop n ps) (emptied_drop n ps h))
  packed_drop (suc n) (Dead s k v ∷ ps) h = packed_departed (drop n ps) (departed_drop n ps h)
  packed_drop (suc n) (Live s g k v ∷ ps) h = packed_drop n ps h

  departed_take : (n : ℕ) (ps : List (Place K V)) → IsDeparted ps → IsDeparted (take n ps)
  departed_take zero ps h = tt
  departed_take (suc n) [] h = tt
  departed_take (suc n) (Empty ∷ ps) h = emptied_take n ps h
  departed_take (suc n) (Dead s k v ∷ ps) h = departed_take n ps h
  departed_take (suc n) (Live s g k v ∷ ps) h = absurd h

  pub packed_take : (n : ℕ) (ps : List (Place K V)) → IsPacked ps → IsPacked (take n ps)
  packed_take zero ps h = tt
  packed_take (suc n) [] h = tt
  packed_take (suc n) (Empty ∷ ps) h = emptied_take n ps h
  packed_take (suc n) (Dead s k v ∷ ps) h = departed_take n ps h
  packed_take (suc n) (Live s g k v ∷ ps) h = packed_take n ps h

  pub live_take : (n : ℕ) (ps : List (Place K V)) → live_pairs (take n ps) ≡ take n (live_pairs ps)
  live_take zero ps = refl
  live_take (suc n) [] = refl
  live_take (suc n) (Empty ∷ ps) = refl
  live_take (suc n) (Dead s k v ∷ ps) = refl
  live_take (suc n) (Live s g k v ∷ ps) = ap (λ qs. (k, v) ∷ qs) (live_take n ps)

  pub live_drop : (n : ℕ) (ps : List (Place K V)) → IsPacked ps → live_pairs (drop n ps) ≡ drop n (live_pairs ps)
  live_drop zero ps h = refl
  live_drop (suc n) [] h = refl
  live_drop (suc n) (Empty ∷ ps) h = departed_live (drop n ps) (departed_emptied (drop n ps) (emptied_drop n ps h))
  live_drop (suc n) (Dead s k v ∷ ps) h = departed_live (drop n ps) (departed_drop n ps h)
  live_drop (suc n) (Live s g k v ∷ ps) h = live_drop n ps h

  module _ (cmp : K → K → Ordering) where
    all_take : (P : K → Type 0) (n : ℕ) (es : List (K × V)) → AllByRecursion P (keys_of es) → AllByRecursion P (keys_of (take n es))
    all_take P zero es h = tt
    all_take P (suc n) [] h = tt
    all_take P (suc n) (e ∷ es) h = (h.0, all_take P n es h.1)

    pub sorted_take : (n : ℕ) (es : List (K × V)) → IsStrictlySortedBy cmp (keys_of es) → IsStrictlySortedBy cmp (keys_of (take n es))
    unfolding IsStrictlySortedBy
    sorted_take zero es h = tt
    sorted_take (suc n) [] h = tt
    sorted_take (suc n) (e ∷ es) h = (all_take (λ y. cmp e.0 y ≡ Less) n es h.0, sorted_take n es h.1)

    pub sorted_drop : (n : ℕ) (es : List (K × V)) → IsStrictlySortedBy cmp (keys_of es) → IsStrictlySortedBy cmp (keys_of (drop n es))
    unfolding IsStrictlySortedBy
    sorted_drop zero es h = h
    sorted_drop (suc n) [] h = h
    sorted_drop (suc n) (e ∷ es) h = sorted_drop n es h.1

    -- a packed row in order, numbered anew, is an array with its pairs and nothing else
    pub sound_packed : (ps qs : List (Place K V)) (len : ℕ) → IsPacked ps → length ps ≡ 15 → IsStrictlySortedBy cmp (keys_of (live_pairs ps)) → length (live_pairs ps) ≤ 15 → len ≡ length (live_pairs ps) → qs ≡ repacked 0 ps
        → IsArray cmp qs len len × ((f : Bool) → cells_of qs len f false ≡ filled_array f (live_pairs ps))
    sound_packed ps qs len pk count so le len_is is =
        let live : live_pairs qs ≡ live_pairs ps = rw is (live_packed 0 ps pk) in
        let dead : dead_pairs qs ≡ [] = rw is (dead_packed 0 ps) in
        let labels : labels_above 0 qs ≡ fresh_labels 0 (length (live_pairs ps)) = rw is (labels_packed 0 ps) in (
          record {
            count = rw is (length_packed 0 ps ∙ count);
            packed = rw is (packed_packed 0 ps pk);
            sorted = rw live so;
            live = len_is ∙ ap length (sym live);
            all = omega (arith, len_is, ap length live, ap length dead);
            within = omega (arith, len_is, le);
            ranks = omega (arith, ap top is, top_packed 0 ps, len_is);
            slots = λ slot. let e : 0 + length (live_pairs ps) ≡ len = omega (arith, len_is) in let u = rw e at (uses_packed slot 0 ps pk) in omega (arith, ap (slot_uses slot) is, u);
          },
          λ f. rw (live, dead, labels, len_is) refl,
        )
    -- ---- the last pair taken out of a row numbered anew

module _ {K V : Type 0} where
  -- as many empty places
  abbrev pub blank : List (Place K V) → List (Place K V)
  blank [] = []
  blank (p ∷ ps) = Empty ∷ blank ps

  emptied_blank : (ps : List (Place K V)) → IsEmptied (blank ps)
  emptied_blank [] = tt
  emptied_blank (p ∷ ps) = emptied_blank ps

  packed_blank : (n : ℕ) (ps : List (Place K V)) → repacked n (blank ps) ≡ blank ps
  packed_blank n [] = refl
  packed_blank n (p ∷ ps) = ap (λ qs. Empty ∷ qs) (packed_blank (n + 1) ps)

  packed_none : (n : ℕ) (ps : List (Place K V)) → IsPacked ps → 0 ≡ length (live_pairs ps) → repacked n ps ≡ blank ps
  packed_none n [] pk e = refl
  packed_none n (Empty ∷ ps) pk e = ap (λ qs. Empty ∷ qs) (packed_none (n + 1) ps (packed_departed ps (departed_emptied ps pk)) (ap length (sym (emptied_live ps pk))))
  packed_none n (Dead s k v ∷ ps) pk e = ap (λ qs. Empty ∷ qs) (packed_none (n + 1) ps (packed_departed ps pk) (ap length (sym (departed_live ps pk))))
  packed_none n (Live s g k v ∷ ps) pk e = absurd (omega (arith, e))

  vacated_packed : (m n : ℕ) (ps : List (Place K V)) → IsPacked ps → suc n ≡ length (live_pairs ps) → take n (repacked m ps) ++ front_vacated (drop n (repacked m ps)) ≡ repacked m (take n ps ++ blank (drop n ps))
  vacated_packed m zero [] pk e = absurd (omega (arith, e))
  vacated_packed m (suc n) [] pk e = absurd (omega (arith, e))
  vacated_packed m zero (Empty ∷ ps) pk e = absurd (omega (arith, e))
  vacated_packed m (suc n) (Empty ∷ ps) pk e = absurd (omega (arith, e))
  vacated_packed m zero (Dead s k v ∷ ps) pk e = absurd (omega (arith, e))
  vacated_packed m (suc n) (Dead s k v ∷ ps) pk e = absurd (omega (arith, e))
  vacated_packed m zero (Live s g k v ∷ ps) pk e = ap (λ qs. Empty ∷ qs) (packed_none (m + 1) ps pk (omega (arith, e)) ∙ sym (packed_blank (m + 1) ps))
  vacated_packed m (suc n) (Live s g k v ∷ ps) pk e = ap (λ qs. Live (slot_of m) 0 k v ∷ qs) (vacated_packed (m + 1) n ps pk (omega (arith, e)))

  length_blank : (n : ℕ) (ps : List (Place K V)) → length (take n ps ++ blank (drop n ps)) ≡ length ps
  length_blank zero [] = refl
  length_blank zero (p ∷ ps) = ap suc (length_blank zero ps)
  length_blank (suc n) [] = refl
  length_blank (suc n) (p ∷ ps) = ap suc (length_blank n ps)

  pub sound_vacated : (cmp : K → K → Ordering) (ps rs qs : List (Place K V)) (n : ℕ) → IsPacked ps → length ps ≡ 15 → IsStrictlySortedBy cmp (keys_of (live_pairs ps)) → n + 1 ≡ length (live_pairs ps) → n < 15
      → rs ≡ repacked 0 ps → qs ≡ take n rs ++ front_vacated (drop n rs)
      → IsArray cmp qs n n × ((f : Bool) → cells_of qs n f false ≡ filled_array f (take n (live_pairs ps)))
  sound_vacated cmp ps rs qs n pk count so len lt rs_is qs_is =
      let ts : List (Place K V) = take n ps ++ blank (drop n ps) in
      let e : suc n ≡ length (live_pairs ps) = omega (arith, len) in
      let is : qs ≡ repacked 0 ts = (rw rs_is at qs_is) ∙ vacated_packed 0 n ps pk e in
      let live : live_pairs ts ≡ take n (live_pairs ps) = live_join (take n ps) (blank (drop n ps)) (emptied_blank (drop n ps)) ∙ live_take n ps in
      let len2 : length (live_pairs ts) ≡ n = ap length live ∙ length-take-le n (live_pairs ps) (omega (arith, len)) in
      rw (← live) (sound_packed cmp ts qs n (packed_join (take n ps) (blank (drop n ps)) (packed_take n ps pk) (emptied_blank (drop n ps))) (length_blank n ps ∙ count) (rw live (sorted_take cmp n (live_pairs ps) so)) (omega (arith, len2, lt)) (sym len2) is)

  -- both parts of a row are packed
  pub packed_front : (n : ℕ) (ps es lower : List (Place K V)) → IsPacked ps → IsEmptied es → lower ≡ take n ps ++ es → IsPacked lower
  packed_front n ps es lower pk e is = rw is (packed_join (take n ps) es (packed_take n ps pk) e)

  pub packed_back : (n : ℕ) (ps es upper : List (Place K V)) → IsPacked ps → IsEmptied es → upper ≡ drop n ps ++ es → IsPacked upper
  packed_back n ps es upper pk e is = rw is (packed_join (drop n ps) es (packed_drop n ps pk) e)

  -- and so are those of a cut
  pub packed_fore : (n : ℕ) (ps lower : List (Place K V)) → IsPacked ps → lower ≡ take n ps ++ take (length (drop n ps)) no_places → IsPacked lower
  packed_fore n ps lower pk is = packed_front n ps (take (length (drop n ps)) no_places) lower pk (emptied_take (length (drop n ps)) no_places tt) is

  pub packed_rear : (n : ℕ) (ps upper : List (Place K V)) → IsPacked ps → upper ≡ drop n ps ++ drop (length (drop n ps)) no_places → IsPacked upper
  packed_rear n ps upper pk is = packed_back n ps (drop (length (drop n ps)) no_places) upper pk (emptied_drop (length (drop n ps)) no_places tt) is

  -- the two parts of a row
  pub sound_parts : (cmp : K → K → Ordering) (ps lower upper es fs qs rs : List (Place K V)) (len used n low : ℕ) → IsArray cmp ps len used
      → lower ≡ take n ps ++ es → upper ≡ drop n ps ++ fs → IsEmptied es → IsEmptied fs → length lower ≡ 15 → length upper ≡ 15 → low ≡ length (take n (live_pairs ps)) → qs ≡ repacked 0 lower → rs ≡ repacked 0 upper
      → (IsArray cmp qs low low × ((f : Bool) → cells_of qs low f false ≡ filled_array f (take n (live_pairs ps))))
      × (IsArray cmp rs (len - low) (len - low) × ((f : Bool) → cells_of rs (len - low) f false ≡ filled_array f (drop n (live_pairs ps))))
  sound_parts cmp ps lower upper es fs qs rs len used n low s lower_is upper_is es_empty fs_empty lower_count upper_count low_is qs_is rs_is =
      let live_low : live_pairs lower ≡ take n (live_pairs ps) = ap live_pairs lower_is ∙ live_join (take n ps) es es_empty ∙ live_take n ps in
      let live_up : live_pairs upper ≡ drop n (live_pairs ps) = ap live_pairs upper_is ∙ live_join (drop n ps) fs fs_empty ∙ live_drop n ps s.packed in
      let pk_low : IsPacked lower = packed_front n ps es lower s.packed es_empty lower_is in
      let pk_up : IsPacked upper = packed_back n ps fs upper s.packed fs_empty upper_is in
      let both : length (take n (live_pairs ps)) + length (drop n (live_pairs ps)) ≡ length (live_pairs ps) = simp (length-take, length-drop) (omega arith) in
      let le : length (live_pairs ps) ≤ 15 = omega (arith, s.all, s.within) in (
        rw (← live_low) (sound_packed cmp lower qs low pk_low lower_count (rw live_low (sorted_take cmp n (live_pairs ps) s.sorted)) (omega (arith, ap length live_low, both, le)) (low_is ∙ ap length (sym live_low)) qs_is),
        rw (← live_up) (sound_packed cmp upper rs (len - low) pk_up upper_count (rw live_up (sorted_drop cmp n (live_pairs ps) s.sorted)) (omega (arith, ap length live_up, both, le)) (omega (arith, ap length live_up, both, low_is, s.live)) rs_is),
      )

  -- the two halves of a row
  pub sound_halves : (cmp : K → K → Ordering) (ps mine lower qs rs : List (Place K V)) (len used low : ℕ) → IsArray cmp ps len used
      → mine ≡ drop 8 ps ++ Empty ∷ no_half → lower ≡ take 8 ps ++ no_half → length mine ≡ 15 → length lower ≡ 15 → low ≡ length (take 8 (live_pairs ps)) → qs ≡ repacked 0 lower → rs ≡ repacked 0 mine
      → (IsArray cmp qs low low × ((f : Bool) → cells_of qs low f false ≡ filled_array f (take 8 (live_pairs ps))))
      × (IsArray cmp rs (len - low) (len - low) × ((f : Bool) → cells_of rs (len - low) f false ≡ filled_array f (drop 8 (live_pairs ps))))
  sound_halves cmp ps mine lower qs rs len used low s mine_is lower_is mine_count lower_count low_is qs_is rs_is = sound_parts cmp ps lower mine no_half (Empty ∷ no_half) qs rs len used 8 low s lower_is mine_is tt tt lower_count mine_count low_is qs_is rs_is

  -- cut behind n places
  pub sound_cut : (cmp : K → K → Ordering) (ps lower upper qs rs : List (Place K V)) (len used n low : ℕ) → IsArray cmp ps len used
      → lower ≡ take n ps ++ take (length (drop n ps)) no_places → upper ≡ drop n ps ++ drop (length (drop n ps)) no_places → length lower ≡ 15 → length upper ≡ 15 → low ≡ length (take n (live_pairs ps)) → qs ≡ repacked 0 lower → rs ≡ repacked 0 upper
      → (IsArray cmp qs low low × ((f : Bool) → cells_of qs low f false ≡ filled_array f (take n (live_pairs ps))))
      × (IsArray cmp rs (len - low) (len - low) × ((f : Bool) → cells_of rs (len - low) f false ≡ filled_array f (drop n (live_pairs ps))))
  sound_cut cmp ps lower upper qs rs len used n low s lower_is upper_is lower_count upper_count low_is qs_is rs_is =
      sound_parts cmp ps lower upper (take (length (drop n ps)) no_places) (drop (length (drop n ps)) no_places) qs rs len used n low s lower_is upper_is
      (emptied_take (length (drop n ps)) no_places tt) (emptied_drop (length (drop n ps)) no_places tt) lower_count upper_count low_is qs_is rs_is

  pub whole_take : (n : ℕ) (xs : List (K × V)) → n ≤ length xs → n ≡ length (take n xs)
  whole_take n xs le = sym (length-take-le n xs le)

  pub low_length : (xs : List (K × V)) (low len n : ℕ) → len ≡ length xs → low ≡ min len n → low ≡ length (take n xs)
  low_length xs low len n e h = simp length-take (omega (arith, e, h))

  pub vacated_pair : (ps rs : List (Place K V)) (n : ℕ) → IsPacked ps → rs ≡ repacked 0 ps → live_pair (slice_index_or rs n Empty) ≡ slice_get (live_pairs ps) n
  vacated_pair ps rs n pk is = rw is (live_get n (repacked 0 ps) (packed_packed 0 ps pk) ∙ ap (λ xs. slice_get xs n) (live_packed 0 ps pk))

  pub vacated_some : (ps rs : List (Place K V)) (n : ℕ) → IsPacked ps → rs ≡ repacked 0 ps → n < length (live_pairs ps) → IsSome (live_pair (slice_index_or rs n Empty))
  vacated_some ps rs n pk is lt = rw (vacated_pair ps rs n pk is) (within_some (live_pairs ps) n lt)

  pub take_none : (xs : List (K × V)) (len : ℕ) → len ≡ length xs → len ≡ 0 → take (length xs - 1) xs ≡ xs
  take_none [] len e z = refl
  take_none (x ∷ xs) len e z = absurd (omega (arith, e, z))
