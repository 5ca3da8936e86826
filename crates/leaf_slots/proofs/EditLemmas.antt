-- What an edit of a row of places does to its pairs, labels and slots.
use Rattle.std.proofs.Common.{arith, ◌≡◌, ℕ, zero, suc, ◌+◌, ◌==◌, ◌<◌, ◌≤◌, ◌++◌, ◌∷◌, [], List, Bool, true, false, not, cond, length, take, drop, refl, ap, ◌∙◌, map, append_assoc}
use Rattle.std.specs.List.{remove}
use Rattle.leaf_slots.specs.declared.place.Place.{Place}
use Rattle.leaf_slots.specs.declared.place.Place.TheVariants.{Empty, Dead, Live}
use Rattle.std.specs.declared.cmp.Ordering.{Ordering}
use Rattle.std.specs.Ordering.{is_lt}
use Rattle.leaf_slots.specs.Labels.{entered, handed_on, fallen}
use Rattle.leaf_slots.specs.Places.{live_pairs, labels_above, dead_pairs, top, has_room, pushed, sunk, widened, tombstones, renewed, paired, repacked, died, is_empty, live_below, slot_uses, IsEmptied, IsDeparted, IsPacked, IsTailed}

pub not_false : (b : Bool) → not b ≡ false → b ≡ true
not_false true h = refl
not_false false h = absurd (cc)

module _ {K V : Type 0} where
  tailed_emptied : (ps : List (Place K V)) → IsEmptied ps → IsTailed ps
  tailed_emptied [] h = tt
  tailed_emptied (Empty ∷ ps) h = h
  tailed_emptied (Dead s k v ∷ ps) h = absurd h
  tailed_emptied (Live s g k v ∷ ps) h = absurd h

  tailed_departed : (ps : List (Place K V)) → IsDeparted ps → IsTailed ps
  tailed_departed [] h = tt
  tailed_departed (Empty ∷ ps) h = h
  tailed_departed (Dead s k v ∷ ps) h = tailed_departed ps h
  tailed_departed (Live s g k v ∷ ps) h = absurd h

  pub tailed_packed : (ps : List (Place K V)) → IsPacked ps → IsTailed ps
  tailed_packed [] h = tt
  tailed_packed (Empty ∷ ps) h = h
  tailed_packed (Dead s k v ∷ ps) h = tailed_departed ps h
  tailed_packed (Live s g k v ∷ ps) h = tailed_packed ps h

  tailed_drop : (n : ℕ) (ps : List (Place K V)) → IsTailed ps → IsTailed (drop n ps)
  tailed_drop zero ps h = h
  tailed_drop (suc n) [] h = tt
  tailed_drop (suc n) (Empty ∷ ps) h = tailed_drop n ps (tailed_emptied ps h)
  tailed_drop (suc n) (Dead s k v ∷ ps) h = tailed_drop n ps h
  tailed_drop (suc n) (Live s g k v ∷ ps) h = tailed_drop n ps h

  -- what stands behind a place
  pub tailed_behind : (p : Place K V) (ps : List (Place K V)) → IsTailed (p ∷ ps) → IsTailed ps
  tailed_behind Empty ps h = tailed_emptied ps h
  tailed_behind (Dead s k v) ps h = h
  tailed_behind (Live s g k v) ps h = h

  pub emptied_behind : (p : Place K V) (ps : List (Place K V)) → is_empty p ≡ true → IsTailed (p ∷ ps) → IsEmptied ps
  emptied_behind Empty ps e h = h
  emptied_behind (Dead s k v) ps e h = absurd (cc)
  emptied_behind (Live s g k v) ps e h = absurd (cc)

  -- empty places stay so
  pub emptied_packed : (n : ℕ) (ps : List (Place K V)) → IsEmptied ps → repacked n ps ≡ ps
  emptied_packed n [] h = refl
  emptied_packed n (Empty ∷ ps) h = ap (λ qs. Empty ∷ qs) (emptied_packed (n + 1) ps h)
  emptied_packed n (Dead s k v ∷ ps) h = absurd h
  emptied_packed n (Live s g k v ∷ ps) h = absurd h

  -- ---- an empty place at the end

  emptied_turn : (ps : List (Place K V)) → IsEmptied ps → ps ++ Empty ∷ [] ≡ Empty ∷ ps
  emptied_turn [] h = refl
  emptied_turn (Empty ∷ ps) h = ap (λ qs. Empty ∷ qs) (emptied_turn ps h)
  emptied_turn (Dead s k v ∷ ps) h = absurd h
  emptied_turn (Live s g k v ∷ ps) h = absurd h

  pushed_turn : (p : Place K V) (ps : List (Place K V)) → IsTailed ps → has_room ps ≡ true → pushed p ps ++ Empty ∷ [] ≡ p ∷ ps
  pushed_turn p [] t h = cc
  pushed_turn p (Empty ∷ ps) t h = ap (λ qs. p ∷ qs) (emptied_turn ps t)
  pushed_turn p (Dead s k v ∷ ps) t h = ap (λ qs. p ∷ qs) (pushed_turn (Dead s k v) ps t h)
  pushed_turn p (Live s g k v ∷ ps) t h = ap (λ qs. p ∷ qs) (pushed_turn (Live s g k v) ps t h)

  -- an insertion, but for one empty place at the end
  pub insert_turn : (n : ℕ) (p : Place K V) (ps : List (Place K V)) → IsTailed ps → has_room (drop n ps) ≡ true
      → (take n ps ++ pushed p (drop n ps)) ++ Empty ∷ [] ≡ take n ps ++ p ∷ drop n ps
  insert_turn n p ps t h = append_assoc (take n ps) (pushed p (drop n ps)) (Empty ∷ []) ∙ ap (λ qs. take n ps ++ qs) (pushed_turn p (drop n ps) (tailed_drop n ps t) h)

  pub live_end : (ps : List (Place K V)) → live_pairs (ps ++ Empty ∷ []) ≡ live_pairs ps
  live_end [] = refl
  live_end (Empty ∷ ps) = refl
  live_end (Dead s k v ∷ ps) = refl
  live_end (Live s g k v ∷ ps) = ap (λ qs. (k, v) ∷ qs) (live_end ps)

  pub labels_end : (low : ℕ) (ps : List (Place K V)) → labels_above low (ps ++ Empty ∷ []) ≡ labels_above low ps
  labels_end low [] = refl
  labels_end low (Empty ∷ ps) = refl
  labels_end low (Dead s k v ∷ ps) = refl
  labels_end low (Live s g k v ∷ ps) = ap (λ ls. (s, low + g + 1) ∷ ls) (labels_end (low + g + 1) ps)

  pub dead_end : (ps : List (Place K V)) → dead_pairs (ps ++ Empty ∷ []) ≡ dead_pairs ps
  dead_end [] = refl
  dead_end (Empty ∷ ps) = dead_end ps
  dead_end (Dead s k v ∷ ps) = ap (λ ds. (s, (k, v)) ∷ ds) (dead_end ps)
  dead_end (Live s g k v ∷ ps) = dead_end ps

  pub top_end : (ps : List (Place K V)) → top (ps ++ Empty ∷ []) ≡ top ps
  top_end [] = refl
  top_end (Empty ∷ ps) = refl
  top_end (Dead s k v ∷ ps) = refl
  top_end (Live s g k v ∷ ps) = ap (λ n. g + 1 + n) (top_end ps)

  pub uses_end : (slot : ℕ) (ps : List (Place K V)) → slot_uses slot (ps ++ Empty ∷ []) ≡ slot_uses slot ps
  uses_end slot [] = refl
  uses_end slot (Empty ∷ ps) = uses_end slot ps
  uses_end slot (Dead s k v ∷ ps) = ap (λ n. cond (s == slot) 1 0 + n) (uses_end slot ps)
  uses_end slot (Live s g k v ∷ ps) = ap (λ n. cond (s == slot) 1 0 + n) (uses_end slot ps)

  emptied_end : (ps : List (Place K V)) → IsEmptied (ps ++ Empty ∷ []) → IsEmptied ps
  emptied_end [] h = tt
  emptied_end (Empty ∷ ps) h = emptied_end ps h
  emptied_end (Dead s k v ∷ ps) h = absurd h
  emptied_end (Live s g k v ∷ ps) h = absurd h

  departed_end : (ps : List (Place K V)) → IsDeparted (ps ++ Empty ∷ []) → IsDeparted ps
  departed_end [] h = tt
  departed_end (Empty ∷ ps) h = emptied_end ps h
  departed_end (Dead s k v ∷ ps) h = departed_end ps h
  departed_end (Live s g k v ∷ ps) h = absurd h

  pub packed_end : (ps : List (Place K V)) → IsPacked (ps ++ Empty ∷ []) → IsPacked ps
  packed_end [] h = tt
  packed_end (Empty ∷ ps) h = emptied_end ps h
  packed_end (Dead s k v ∷ ps) h = departed_end ps h
  packed_end (Live s g k v ∷ ps) h = packed_end ps h

  -- ---- room

  emptied_room : (ps : List (Place K V)) → IsEmptied ps → 0 < length ps → has_room ps ≡ true
  emptied_room [] h lt = absurd (omega (arith, lt))
  emptied_room (Empty ∷ ps) h lt = refl
  emptied_room (Dead s k v ∷ ps) h lt = absurd h
  emptied_room (Live s g k v ∷ ps) h lt = absurd h

  departed_room : (ps : List (Place K V)) → IsDeparted ps → length (dead_pairs ps) < length ps → has_room ps ≡ true
  departed_room [] h lt = absurd (omega (arith, lt))
  departed_room (Empty ∷ ps) h lt = refl
  departed_room (Dead s k v ∷ ps) h lt = departed_room ps h (omega (arith, lt))
  departed_room (Live s g k v ∷ ps) h lt = absurd h

  pub room_behind : (n : ℕ) (ps : List (Place K V)) → IsPacked ps → n ≤ length (live_pairs ps) → length (live_pairs ps) + length (dead_pairs ps) < length ps → has_room (drop n ps) ≡ true
  room_behind zero [] pk le lt = absurd (omega (arith, lt))
  room_behind (suc n) [] pk le lt = absurd (omega (arith, lt))
  room_behind zero (Empty ∷ ps) pk le lt = refl
  room_behind (suc n) (Empty ∷ ps) pk le lt = absurd (omega (arith, le))
  room_behind zero (Dead s k v ∷ ps) pk le lt = departed_room ps pk (omega (arith, lt))
  room_behind (suc n) (Dead s k v ∷ ps) pk le lt = absurd (omega (arith, le))
  room_behind zero (Live s g k v ∷ ps) pk le lt = room_behind zero ps pk (omega arith) (omega (arith, lt))
  room_behind (suc n) (Live s g k v ∷ ps) pk le lt = room_behind n ps pk (omega (arith, le)) (omega (arith, lt))

  pub below_live : (cmp : K → K → Ordering) (key : K) (ps : List (Place K V)) → live_below cmp key ps ≤ length (live_pairs ps)
  below_live cmp key [] = omega arith
  below_live cmp key (Empty ∷ ps) = omega arith
  below_live cmp key (Dead s k v ∷ ps) = omega arith
  below_live cmp key (Live s g k v ∷ ps) =
      elim (is_lt (cmp k key)) as (λ b. cond b (suc (live_below cmp key ps)) 0 ≤ suc (length (live_pairs ps))) [ true ↦ omega (arith, below_live cmp key ps) | false ↦ omega arith ]

  -- ---- a new live place behind n live ones

  pub labels_higher : (low : ℕ) (ps : List (Place K V)) → labels_above (low + 1) ps ≡ map (λ l. (l.0, l.1 + 1)) (labels_above low ps)
  labels_higher low [] = refl
  labels_higher low (Empty ∷ ps) = refl
  labels_higher low (Dead t k v ∷ ps) = refl
  labels_higher low (Live t g k v ∷ ps) =
      let e : low + 1 + g + 1 ≡ low + g + 1 + 1 = omega arith in
      rw e (ap (λ ls. (t, low + g + 1 + 1) ∷ ls) (labels_higher (low + g + 1) ps))

  module _ (s : ℕ) (key : K) (val : V) where
    pub labels_insert : (low n : ℕ) (ps : List (Place K V)) → n ≤ length (live_pairs ps) → labels_above low (take n ps ++ Live s 0 key val ∷ drop n ps) ≡ entered low n s (labels_above low ps)
    labels_insert low zero ps le = let e : low + 0 + 1 ≡ low + 1 = omega arith in rw e (ap (λ ls. (s, low + 1) ∷ ls) (labels_higher low ps))
    labels_insert low (suc n) [] le = absurd (omega (arith, le))
    labels_insert low (suc n) (Empty ∷ ps) le = absurd (omega (arith, le))
    labels_insert low (suc n) (Dead t k v ∷ ps) le = absurd (omega (arith, le))
    labels_insert low (suc n) (Live t g k v ∷ ps) le = ap (λ ls. (t, low + g + 1) ∷ ls) (labels_insert (low + g + 1) n ps (omega (arith, le)))

    pub dead_insert : (h n : ℕ) (ps : List (Place K V)) → dead_pairs (take n ps ++ Live s h key val ∷ drop n ps) ≡ dead_pairs ps
    dead_insert h zero ps = refl
    dead_insert h (suc n) [] = refl
    dead_insert h (suc n) (Empty ∷ ps) = dead_insert h n ps
    dead_insert h (suc n) (Dead t k v ∷ ps) = ap (λ ds. (t, (k, v)) ∷ ds) (dead_insert h n ps)
    dead_insert h (suc n) (Live t g k v ∷ ps) = dead_insert h n ps

    pub top_insert : (n : ℕ) (ps : List (Place K V)) → n ≤ length (live_pairs ps) → top (take n ps ++ Live s 0 key val ∷ drop n ps) ≡ top ps + 1
    top_insert zero ps le = omega arith
    top_insert (suc n) [] le = absurd (omega (arith, le))
    top_insert (suc n) (Empty ∷ ps) le = absurd (omega (arith, le))
    top_insert (suc n) (Dead t k v ∷ ps) le = absurd (omega (arith, le))
    top_insert (suc n) (Live t g k v ∷ ps) le = let h : n ≤ length (live_pairs ps) = omega (arith, le) in omega (arith, top_insert n ps h)

    pub uses_insert : (h slot n : ℕ) (ps : List (Place K V)) → slot_uses slot (take n ps ++ Live s h key val ∷ drop n ps) ≡ cond (s == slot) 1 0 + slot_uses slot ps
    uses_insert h slot zero ps = refl
    uses_insert h slot (suc n) [] = refl
    uses_insert h slot (suc n) (Empty ∷ ps) = uses_insert h slot n ps
    uses_insert h slot (suc n) (Dead t k v ∷ ps) = omega (arith, uses_insert h slot n ps)
    uses_insert h slot (suc n) (Live t g k v ∷ ps) = omega (arith, uses_insert h slot n ps)

    pub packed_insert : (h n : ℕ) (ps : List (Place K V)) → n ≤ length (live_pairs ps) → IsPacked ps → IsPacked (take n ps ++ Live s h key val ∷ drop n ps)
    packed_insert h zero ps le pk = pk
    packed_insert h (suc n) [] le pk = absurd (omega (arith, le))
    packed_insert h (suc n) (Empty ∷ ps) le pk = absurd (omega (arith, le))
    packed_insert h (suc n) (Dead t k v ∷ ps) le pk = absurd (omega (arith, le))
    packed_insert h (suc n) (Live t g k v ∷ ps) le pk = packed_insert h n ps (omega (arith, le)) pk

    pub length_insert : (h n : ℕ) (ps : List (Place K V)) → n ≤ length (live_pairs ps) → length (live_pairs (take n ps ++ Live s h key val ∷ drop n ps)) ≡ length (live_pairs ps) + 1
    length_insert h zero ps le = omega arith
    length_insert h (suc n) [] le = absurd (omega (arith, le))
    length_insert h (suc n) (Empty ∷ ps) le = absurd (omega (arith, le))
    length_insert h (suc n) (Dead t k v ∷ ps) le = absurd (omega (arith, le))
    length_insert h (suc n) (Live t g k v ∷ ps) le = let shorter : n ≤ length (live_pairs ps) = omega (arith, le) in omega (arith, length_insert h n ps shorter)

    -- ---- behind all others, with a gap

    pub labels_last : (h low n : ℕ) (ps : List (Place K V)) → n ≡ length (live_pairs ps) → labels_above low (take n ps ++ Live s h key val ∷ drop n ps) ≡ labels_above low ps ++ (s, low + top ps + h + 1) ∷ []
    labels_last h low zero [] e = let f : low + 0 + h + 1 ≡ low + h + 1 = omega arith in rw f refl
    labels_last h low zero (Empty ∷ ps) e = let f : low + 0 + h + 1 ≡ low + h + 1 = omega arith in rw f refl
    labels_last h low zero (Dead t k v ∷ ps) e = let f : low + 0 + h + 1 ≡ low + h + 1 = omega arith in rw f refl
    labels_last h low zero (Live t g k v ∷ ps) e = absurd (omega (arith, e))
    labels_last h low (suc n) [] e = absurd (omega (arith, e))
    labels_last h low (suc n) (Empty ∷ ps) e = absurd (omega (arith, e))
    labels_last h low (suc n) (Dead t k v ∷ ps) e = absurd (omega (arith, e))
    labels_last h low (suc n) (Live t g k v ∷ ps) e =
        let f : low + (g + 1 + top ps) + h + 1 ≡ low + g + 1 + top ps + h + 1 = omega arith in
        rw f (ap (λ ls. (t, low + g + 1) ∷ ls) (labels_last h (low + g + 1) n ps (omega (arith, e))))

    pub top_last : (h n : ℕ) (ps : List (Place K V)) → n ≡ length (live_pairs ps) → top (take n ps ++ Live s h key val ∷ drop n ps) ≡ top ps + h + 1
    top_last h zero [] e = omega arith
    top_last h zero (Empty ∷ ps) e = omega arith
    top_last h zero (Dead t k v ∷ ps) e = omega arith
    top_last h zero (Live t g k v ∷ ps) e = absurd (omega (arith, e))
    top_last h (suc n) [] e = absurd (omega (arith, e))
    top_last h (suc n) (Empty ∷ ps) e = absurd (omega (arith, e))
    top_last h (suc n) (Dead t k v ∷ ps) e = absurd (omega (arith, e))
    top_last h (suc n) (Live t g k v ∷ ps) e = let f : n ≡ length (live_pairs ps) = omega (arith, e) in omega (arith, top_last h n ps f)

    pub live_last : (h n : ℕ) (ps : List (Place K V)) → n ≡ length (live_pairs ps) → live_pairs (take n ps ++ Live s h key val ∷ drop n ps) ≡ live_pairs ps ++ (key, val) ∷ []
    live_last h zero [] e = refl
    live_last h zero (Empty ∷ ps) e = refl
    live_last h zero (Dead t k v ∷ ps) e = refl
    live_last h zero (Live t g k v ∷ ps) e = absurd (omega (arith, e))
    live_last h (suc n) [] e = absurd (omega (arith, e))
    live_last h (suc n) (Empty ∷ ps) e = absurd (omega (arith, e))
    live_last h (suc n) (Dead t k v ∷ ps) e = absurd (omega (arith, e))
    live_last h (suc n) (Live t g k v ∷ ps) e = ap (λ qs. (k, v) ∷ qs) (live_last h n ps (omega (arith, e)))

    -- ---- a dead place behind the live ones

    emptied_live : (ps : List (Place K V)) → IsEmptied ps → live_pairs ps ≡ []
    emptied_live [] h = refl
    emptied_live (Empty ∷ ps) h = refl
    emptied_live (Dead t k v ∷ ps) h = refl
    emptied_live (Live t g k v ∷ ps) h = absurd h

    pub live_bury : (ps : List (Place K V)) → live_pairs (take (length (live_pairs ps)) ps ++ Dead s key val ∷ drop (length (live_pairs ps)) ps) ≡ live_pairs ps
    live_bury [] = refl
    live_bury (Empty ∷ ps) = refl
    live_bury (Dead t k v ∷ ps) = refl
    live_bury (Live t g k v ∷ ps) = ap (λ qs. (k, v) ∷ qs) (live_bury ps)

    pub labels_bury : (low : ℕ) (ps : List (Place K V)) → labels_above low (take (length (live_pairs ps)) ps ++ Dead s key val ∷ drop (length (live_pairs ps)) ps) ≡ labels_above low ps
    labels_bury low [] = refl
    labels_bury low (Empty ∷ ps) = refl
    labels_bury low (Dead t k v ∷ ps) = refl
    labels_bury low (Live t g k v ∷ ps) = ap (λ ls. (t, low + g + 1) ∷ ls) (labels_bury (low + g + 1) ps)

    pub dead_bury : (ps : List (Place K V)) → dead_pairs (take (length (live_pairs ps)) ps ++ Dead s key val ∷ drop (length (live_pairs ps)) ps) ≡ (s, (key, val)) ∷ dead_pairs ps
    dead_bury [] = refl
    dead_bury (Empty ∷ ps) = refl
    dead_bury (Dead t k v ∷ ps) = refl
    dead_bury (Live t g k v ∷ ps) = dead_bury ps

    pub top_bury : (ps : List (Place K V)) → top (take (length (live_pairs ps)) ps ++ Dead s key val ∷ drop (length (live_pairs ps)) ps) ≡ top ps
    top_bury [] = refl
    top_bury (Empty ∷ ps) = refl
    top_bury (Dead t k v ∷ ps) = refl
    top_bury (Live t g k v ∷ ps) = ap (λ n. g + 1 + n) (top_bury ps)

    pub uses_bury : (slot n : ℕ) (ps : List (Place K V)) → slot_uses slot (take n ps ++ Dead s key val ∷ drop n ps) ≡ cond (s == slot) 1 0 + slot_uses slot ps
    uses_bury slot zero ps = refl
    uses_bury slot (suc n) [] = refl
    uses_bury slot (suc n) (Empty ∷ ps) = uses_bury slot n ps
    uses_bury slot (suc n) (Dead t k v ∷ ps) = omega (arith, uses_bury slot n ps)
    uses_bury slot (suc n) (Live t g k v ∷ ps) = omega (arith, uses_bury slot n ps)

    departed_emptied : (ps : List (Place K V)) → IsEmptied ps → IsDeparted ps
    departed_emptied [] h = tt
    departed_emptied (Empty ∷ ps) h = h
    departed_emptied (Dead t k v ∷ ps) h = absurd h
    departed_emptied (Live t g k v ∷ ps) h = absurd h

    pub packed_bury : (ps : List (Place K V)) → IsPacked ps → IsPacked (take (length (live_pairs ps)) ps ++ Dead s key val ∷ drop (length (live_pairs ps)) ps)
    packed_bury [] h = tt
    packed_bury (Empty ∷ ps) h = h
    packed_bury (Dead t k v ∷ ps) h = h
    packed_bury (Live t g k v ∷ ps) h = packed_bury ps h

  -- ---- the live place behind n live ones, buried

  module _ (t : ℕ) (key : K) (val : V) where
    labels_sunk : (low : ℕ) (ps : List (Place K V)) → labels_above low (sunk (Dead t key val) ps) ≡ labels_above low ps
    labels_sunk low [] = refl
    labels_sunk low (Empty ∷ ps) = refl
    labels_sunk low (Dead s k v ∷ ps) = refl
    labels_sunk low (Live s g k v ∷ ps) = ap (λ ls. (s, low + g + 1) ∷ ls) (labels_sunk (low + g + 1) ps)

    dead_sunk : (ps : List (Place K V)) → dead_pairs (sunk (Dead t key val) ps) ≡ (t, (key, val)) ∷ dead_pairs ps
    dead_sunk [] = refl
    dead_sunk (Empty ∷ ps) = refl
    dead_sunk (Dead s k v ∷ ps) = refl
    dead_sunk (Live s g k v ∷ ps) = dead_sunk ps

    top_sunk : (ps : List (Place K V)) → top (sunk (Dead t key val) ps) ≡ top ps
    top_sunk [] = refl
    top_sunk (Empty ∷ ps) = refl
    top_sunk (Dead s k v ∷ ps) = refl
    top_sunk (Live s g k v ∷ ps) = ap (λ n. g + 1 + n) (top_sunk ps)

    uses_sunk : (slot : ℕ) (ps : List (Place K V)) → slot_uses slot (sunk (Dead t key val) ps) ≡ cond (t == slot) 1 0 + slot_uses slot ps
    uses_sunk slot [] = refl
    uses_sunk slot (Empty ∷ ps) = refl
    uses_sunk slot (Dead s k v ∷ ps) = refl
    uses_sunk slot (Live s g k v ∷ ps) = omega (arith, uses_sunk slot ps)

    packed_sunk : (ps : List (Place K V)) → IsPacked ps → IsPacked (sunk (Dead t key val) ps)
    packed_sunk [] h = tt
    packed_sunk (Empty ∷ ps) h = h
    packed_sunk (Dead s k v ∷ ps) h = h
    packed_sunk (Live s g k v ∷ ps) h = packed_sunk ps h

    live_sunk : (ps : List (Place K V)) → live_pairs (sunk (Dead t key val) ps) ≡ live_pairs ps
    live_sunk [] = refl
    live_sunk (Empty ∷ ps) = refl
    live_sunk (Dead s k v ∷ ps) = refl
    live_sunk (Live s g k v ∷ ps) = ap (λ qs. (k, v) ∷ qs) (live_sunk ps)

  labels_widened : (low n : ℕ) (ps : List (Place K V)) → labels_above low (widened n ps) ≡ labels_above (low + n) ps
  labels_widened low n [] = refl
  labels_widened low n (Empty ∷ ps) = refl
  labels_widened low n (Dead s k v ∷ ps) = refl
  labels_widened low n (Live s g k v ∷ ps) = let e : low + (g + n) + 1 ≡ low + n + g + 1 = omega arith in rw e refl

  dead_widened : (n : ℕ) (ps : List (Place K V)) → dead_pairs (widened n ps) ≡ dead_pairs ps
  dead_widened n [] = refl
  dead_widened n (Empty ∷ ps) = refl
  dead_widened n (Dead s k v ∷ ps) = refl
  dead_widened n (Live s g k v ∷ ps) = refl

  top_widened : (n : ℕ) (ps : List (Place K V)) → top (widened n ps) ≤ n + top ps
  top_widened n [] = omega arith
  top_widened n (Empty ∷ ps) = omega arith
  top_widened n (Dead s k v ∷ ps) = omega arith
  top_widened n (Live s g k v ∷ ps) = omega arith

  uses_widened : (slot n : ℕ) (ps : List (Place K V)) → slot_uses slot (widened n ps) ≡ slot_uses slot ps
  uses_widened slot n [] = refl
  uses_widened slot n (Empty ∷ ps) = refl
  uses_widened slot n (Dead s k v ∷ ps) = refl
  uses_widened slot n (Live s g k v ∷ ps) = refl

  packed_widened : (n : ℕ) (ps : List (Place K V)) → IsPacked ps → IsPacked (widened n ps)
  packed_widened n [] h = tt
  packed_widened n (Empty ∷ ps) h = h
  packed_widened n (Dead s k v ∷ ps) h = h
  packed_widened n (Live s g k v ∷ ps) h = h

  live_widened : (n : ℕ) (ps : List (Place K V)) → live_pairs (widened n ps) ≡ live_pairs ps
  live_widened n [] = refl
  live_widened n (Empty ∷ ps) = refl
  live_widened n (Dead s k v ∷ ps) = refl
  live_widened n (Live s g k v ∷ ps) = refl

  pub live_tombstones : (s g : ℕ) (k : K) (v : V) (ps : List (Place K V)) → live_pairs (tombstones (Live s g k v ∷ ps)) ≡ live_pairs ps
  live_tombstones s g k v ps = live_widened (g + 1) (sunk (Dead s k v) ps) ∙ live_sunk s k v ps

  pub labels_remove : (low n : ℕ) (ps : List (Place K V)) → n < length (live_pairs ps) → labels_above low (take n ps ++ tombstones (drop n ps)) ≡ remove (labels_above low ps) n
  labels_remove low zero [] lt = absurd (omega (arith, lt))
  labels_remove low (suc n) [] lt = absurd (omega (arith, lt))
  labels_remove low zero (Empty ∷ ps) lt = absurd (omega (arith, lt))
  labels_remove low (suc n) (Empty ∷ ps) lt = absurd (omega (arith, lt))
  labels_remove low zero (Dead s k v ∷ ps) lt = absurd (omega (arith, lt))
  labels_remove low (suc n) (Dead s k v ∷ ps) lt = absurd (omega (arith, lt))
  labels_remove low zero (Live s g k v ∷ ps) lt =
      let e : low + (g + 1) ≡ low + g + 1 = omega arith in
      labels_widened low (g + 1) (sunk (Dead s k v) ps) ∙ labels_sunk s k v (low + (g + 1)) ps ∙ ap (λ n. labels_above n ps) e
  labels_remove low (suc n) (Live s g k v ∷ ps) lt = ap (λ ls. (s, low + g + 1) ∷ ls) (labels_remove (low + g + 1) n ps (omega (arith, lt)))

  pub dead_remove : (low n : ℕ) (ps : List (Place K V)) → n < length (live_pairs ps) → dead_pairs (take n ps ++ tombstones (drop n ps)) ≡ fallen n (labels_above low ps) (live_pairs ps) ++ dead_pairs ps
  dead_remove low zero [] lt = absurd (omega (arith, lt))
  dead_remove low (suc n) [] lt = absurd (omega (arith, lt))
  dead_remove low zero (Empty ∷ ps) lt = absurd (omega (arith, lt))
  dead_remove low (suc n) (Empty ∷ ps) lt = absurd (omega (arith, lt))
  dead_remove low zero (Dead s k v ∷ ps) lt = absurd (omega (arith, lt))
  dead_remove low (suc n) (Dead s k v ∷ ps) lt = absurd (omega (arith, lt))
  dead_remove low zero (Live s g k v ∷ ps) lt = dead_widened (g + 1) (sunk (Dead s k v) ps) ∙ dead_sunk s k v ps
  dead_remove low (suc n) (Live s g k v ∷ ps) lt = dead_remove (low + g + 1) n ps (omega (arith, lt))

  pub top_remove : (n : ℕ) (ps : List (Place K V)) → n < length (live_pairs ps) → top (take n ps ++ tombstones (drop n ps)) ≤ top ps
  top_remove zero [] lt = absurd (omega (arith, lt))
  top_remove (suc n) [] lt = absurd (omega (arith, lt))
  top_remove zero (Empty ∷ ps) lt = absurd (omega (arith, lt))
  top_remove (suc n) (Empty ∷ ps) lt = absurd (omega (arith, lt))
  top_remove zero (Dead s k v ∷ ps) lt = absurd (omega (arith, lt))
  top_remove (suc n) (Dead s k v ∷ ps) lt = absurd (omega (arith, lt))
  top_remove zero (Live s g k v ∷ ps) lt = omega (arith, top_widened (g + 1) (sunk (Dead s k v) ps), top_sunk s k v ps)
  top_remove (suc n) (Live s g k v ∷ ps) lt = let h : n < length (live_pairs ps) = omega (arith, lt) in omega (arith, top_remove n ps h)

  pub uses_remove : (slot n : ℕ) (ps : List (Place K V)) → n < length (live_pairs ps) → slot_uses slot (take n ps ++ tombstones (drop n ps)) ≡ slot_uses slot ps
  uses_remove slot zero [] lt = absurd (omega (arith, lt))
  uses_remove slot (suc n) [] lt = absurd (omega (arith, lt))
  uses_remove slot zero (Empty ∷ ps) lt = absurd (omega (arith, lt))
  uses_remove slot (suc n) (Empty ∷ ps) lt = absurd (omega (arith, lt))
  uses_remove slot zero (Dead s k v ∷ ps) lt = absurd (omega (arith, lt))
  uses_remove slot (suc n) (Dead s k v ∷ ps) lt = absurd (omega (arith, lt))
  uses_remove slot zero (Live s g k v ∷ ps) lt = uses_widened slot (g + 1) (sunk (Dead s k v) ps) ∙ uses_sunk s k v slot ps
  uses_remove slot (suc n) (Live s g k v ∷ ps) lt = let h : n < length (live_pairs ps) = omega (arith, lt) in omega (arith, uses_remove slot n ps h)

  pub packed_remove : (n : ℕ) (ps : List (Place K V)) → n < length (live_pairs ps) → IsPacked ps → IsPacked (take n ps ++ tombstones (drop n ps))
  packed_remove zero [] lt h = absurd (omega (arith, lt))
  packed_remove (suc n) [] lt h = absurd (omega (arith, lt))
  packed_remove zero (Empty ∷ ps) lt h = absurd (omega (arith, lt))
  packed_remove (suc n) (Empty ∷ ps) lt h = absurd (omega (arith, lt))
  packed_remove zero (Dead s k v ∷ ps) lt h = absurd (omega (arith, lt))
  packed_remove (suc n) (Dead s k v ∷ ps) lt h = absurd (omega (arith, lt))
  packed_remove zero (Live s g k v ∷ ps) lt h = packed_widened (g + 1) (sunk (Dead s k v) ps) (packed_sunk s k v ps h)
  packed_remove (suc n) (Live s g k v ∷ ps) lt h = packed_remove n ps (omega (arith, lt)) h

  pub length_remove : (n : ℕ) (ps : List (Place K V)) → n < length (live_pairs ps) → length (live_pairs (take n ps ++ tombstones (drop n ps))) + 1 ≡ length (live_pairs ps)
  length_remove zero [] lt = absurd (omega (arith, lt))
  length_remove (suc n) [] lt = absurd (omega (arith, lt))
  length_remove zero (Empty ∷ ps) lt = absurd (omega (arith, lt))
  length_remove (suc n) (Empty ∷ ps) lt = absurd (omega (arith, lt))
  length_remove zero (Dead s k v ∷ ps) lt = absurd (omega (arith, lt))
  length_remove (suc n) (Dead s k v ∷ ps) lt = absurd (omega (arith, lt))
  length_remove zero (Live s g k v ∷ ps) lt = omega (arith, ap length (live_widened (g + 1) (sunk (Dead s k v) ps)), ap length (live_sunk s k v ps))
  length_remove (suc n) (Live s g k v ∷ ps) lt = let h : n < length (live_pairs ps) = omega (arith, lt) in omega (arith, length_remove n ps h)

  pub length_fallen : (low n : ℕ) (ps : List (Place K V)) → n < length (live_pairs ps) → length (fallen n (labels_above low ps) (live_pairs ps)) ≡ 1
  length_fallen low zero [] lt = absurd (omega (arith, lt))
  length_fallen low (suc n) [] lt = absurd (omega (arith, lt))
  length_fallen low zero (Empty ∷ ps) lt = absurd (omega (arith, lt))
  length_fallen low (suc n) (Empty ∷ ps) lt = absurd (omega (arith, lt))
  length_fallen low zero (Dead s k v ∷ ps) lt = absurd (omega (arith, lt))
  length_fallen low (suc n) (Dead s k v ∷ ps) lt = absurd (omega (arith, lt))
  length_fallen low zero (Live s g k v ∷ ps) lt = refl
  length_fallen low (suc n) (Live s g k v ∷ ps) lt = length_fallen (low + g + 1) n ps (omega (arith, lt))

  -- ---- the live place behind n live ones, with another slot and pair

  module _ (s : ℕ) (key : K) (val : V) where
    pub labels_renew : (low n : ℕ) (ps : List (Place K V)) → n < length (live_pairs ps) → labels_above low (take n ps ++ renewed s key val (drop n ps)) ≡ handed_on n s (labels_above low ps)
    labels_renew low zero [] lt = absurd (omega (arith, lt))
    labels_renew low (suc n) [] lt = absurd (omega (arith, lt))
    labels_renew low zero (Empty ∷ ps) lt = absurd (omega (arith, lt))
    labels_renew low (suc n) (Empty ∷ ps) lt = absurd (omega (arith, lt))
    labels_renew low zero (Dead t k v ∷ ps) lt = absurd (omega (arith, lt))
    labels_renew low (suc n) (Dead t k v ∷ ps) lt = absurd (omega (arith, lt))
    labels_renew low zero (Live t g k v ∷ ps) lt = refl
    labels_renew low (suc n) (Live t g k v ∷ ps) lt = ap (λ ls. (t, low + g + 1) ∷ ls) (labels_renew (low + g + 1) n ps (omega (arith, lt)))

    pub dead_renew : (n : ℕ) (ps : List (Place K V)) → dead_pairs (take n ps ++ renewed s key val (drop n ps)) ≡ dead_pairs ps
    dead_renew zero [] = refl
    dead_renew zero (Empty ∷ ps) = refl
    dead_renew zero (Dead t k v ∷ ps) = refl
    dead_renew zero (Live t g k v ∷ ps) = refl
    dead_renew (suc n) [] = refl
    dead_renew (suc n) (Empty ∷ ps) = dead_renew n ps
    dead_renew (suc n) (Dead t k v ∷ ps) = ap (λ ds. (t, (k, v)) ∷ ds) (dead_renew n ps)
    dead_renew (suc n) (Live t g k v ∷ ps) = dead_renew n ps

    pub top_renew : (n : ℕ) (ps : List (Place K V)) → top (take n ps ++ renewed s key val (drop n ps)) ≡ top ps
    top_renew zero [] = refl
    top_renew zero (Empty ∷ ps) = refl
    top_renew zero (Dead t k v ∷ ps) = refl
    top_renew zero (Live t g k v ∷ ps) = refl
    top_renew (suc n) [] = refl
    top_renew (suc n) (Empty ∷ ps) = refl
    top_renew (suc n) (Dead t k v ∷ ps) = refl
    top_renew (suc n) (Live t g k v ∷ ps) = ap (λ m. g + 1 + m) (top_renew n ps)

    pub length_renew : (n : ℕ) (ps : List (Place K V)) → length (live_pairs (take n ps ++ renewed s key val (drop n ps))) ≡ length (live_pairs ps)
    length_renew zero [] = refl
    length_renew zero (Empty ∷ ps) = refl
    length_renew zero (Dead t k v ∷ ps) = refl
    length_renew zero (Live t g k v ∷ ps) = refl
    length_renew (suc n) [] = refl
    length_renew (suc n) (Empty ∷ ps) = refl
    length_renew (suc n) (Dead t k v ∷ ps) = refl
    length_renew (suc n) (Live t g k v ∷ ps) = omega (arith, length_renew n ps)

    pub packed_renew : (n : ℕ) (ps : List (Place K V)) → n < length (live_pairs ps) → IsPacked ps → IsPacked (take n ps ++ renewed s key val (drop n ps))
    packed_renew zero [] lt h = h
    packed_renew zero (Empty ∷ ps) lt h = h
    packed_renew zero (Dead t k v ∷ ps) lt h = h
    packed_renew zero (Live t g k v ∷ ps) lt h = h
    packed_renew (suc n) [] lt h = h
    packed_renew (suc n) (Empty ∷ ps) lt h = absurd (omega (arith, lt))
    packed_renew (suc n) (Dead t k v ∷ ps) lt h = absurd (omega (arith, lt))
    packed_renew (suc n) (Live t g k v ∷ ps) lt h = packed_renew n ps (omega (arith, lt)) h

  -- what it was
  pub record WasLive (low n : ℕ) (ps : List (Place K V)) : Type 0 where
    pub slot : ℕ
    pub key : K
    pub val : V
    pub died_is : died (drop n ps) ≡ Dead slot key val
    pub fallen_is : fallen n (labels_above low ps) (live_pairs ps) ≡ (slot, (key, val)) ∷ []
    pub uses_is : (s : ℕ) (k : K) (v : V) (other : ℕ) → slot_uses other (take n ps ++ renewed s k v (drop n ps)) + cond (slot == other) 1 0 ≡ cond (s == other) 1 0 + slot_uses other ps
    pub paired_is : (k : K) (v : V) → paired k v (drop n ps) ≡ renewed slot k v (drop n ps)
    pub labels_is : handed_on n slot (labels_above low ps) ≡ labels_above low ps

  pub was_live : (low n : ℕ) (ps : List (Place K V)) → n < length (live_pairs ps) → WasLive low n ps
  was_live low zero [] lt = absurd (omega (arith, lt))
  was_live low (suc n) [] lt = absurd (omega (arith, lt))
  was_live low zero (Empty ∷ ps) lt = absurd (omega (arith, lt))
  was_live low (suc n) (Empty ∷ ps) lt = absurd (omega (arith, lt))
  was_live low zero (Dead t k v ∷ ps) lt = absurd (omega (arith, lt))
  was_live low (suc n) (Dead t k v ∷ ps) lt = absurd (omega (arith, lt))
  was_live low zero (Live t g k v ∷ ps) lt = record { slot = t; key = k; val = v; died_is = refl; fallen_is = refl; uses_is = λ s l w other. omega arith; paired_is = λ l w. refl; labels_is = refl }
  was_live low (suc n) (Live t g k v ∷ ps) lt =
      let w = was_live (low + g + 1) n ps (omega (arith, lt)) in
      record { slot = w.slot; key = w.key; val = w.val; died_is = w.died_is; fallen_is = w.fallen_is; uses_is = λ s l x other. omega (arith, w.uses_is s l x other); paired_is = w.paired_is; labels_is = ap (λ ls. (t, low + g + 1) ∷ ls) w.labels_is }
