-- Rows of places under their edits.
use Rattle.std.proofs.Common.{arith, ◌≡◌, ℕ, zero, suc, ◌+◌, ◌≤◌, ◌<◌, ◌∷◌, ◌++◌, [], List, IsSome, slice_index_or, length, take, drop, refl, ap}
use Rattle.std.proofs.lemmas.Bool.{false≢true}
use Rattle.leaf_slots.specs.declared.place.Place.{Place}
use Rattle.leaf_slots.specs.declared.place.Place.TheVariants.{Empty, Dead, Live}
use Rattle.leaf_slots.specs.Places.{live_pair, top, sunk}

module _ {K V : Type 0} where
  pub top-sunk : (s : ℕ) (k : K) (v : V) (ps : List (Place K V)) → top (sunk (Dead s k v) ps) ≡ top ps
  top-sunk s k v [] = refl
  top-sunk s k v (Empty ∷ ps) = refl
  top-sunk s k v (Dead _ _ _ ∷ ps) = refl
  top-sunk s k v (Live _ g _ _ ∷ ps) = ap (λ n. g + 1 + n) (top-sunk s k v ps)

  pub top_first : (p : Place K V) (ps : List (Place K V)) → top (p ∷ []) ≤ top (p ∷ ps)
  top_first Empty ps = omega arith
  top_first (Dead s k v) ps = omega arith
  top_first (Live s g k v) ps = omega arith

  pub room_for_gap : (at s g : ℕ) (k : K) (v : V) (rest : List (Place K V)) (p : Place K V) (qs : List (Place K V)) (head : Place K V)
      → head ≡ Live s g k v → at ≤ 0 → top (drop at (head ∷ rest)) ≤ 15 → p ∷ qs ≡ sunk (Dead s k v) rest → top (p ∷ []) + (g + 1) ≤ 15
  room_for_gap at s g k v rest p qs head e z h q =
      let z0 : at ≡ 0 = omega (arith, z) in
      let h1 : top (drop 0 (head ∷ rest)) ≤ 15 = rw z0 at h in
      let h2 : top (Live s g k v ∷ rest) ≤ 15 = rw e at h1 in
      omega (arith, h2, top_first p qs, ap top q, top-sunk s k v rest)

module _ {K V : Type 0} where
  -- a live place is one of the row
  pub live_within : (ps : List (Place K V)) (at : ℕ) → IsSome (live_pair (slice_index_or ps at Empty)) → at < length ps
  live_within [] at some = absurd (false≢true some)
  live_within (p ∷ ps) zero some = omega arith
  live_within (p ∷ ps) (suc at) some = omega (arith, live_within ps at some)

  -- the row from a place on
  pub row_from : (ps : List (Place K V)) (at : ℕ) (p : Place K V) → at < length ps → slice_index_or ps at Empty ≡ p → drop at ps ≡ p ∷ drop (at + 1) ps
  row_from [] at p lt e = absurd (omega (arith, lt))
  row_from (q ∷ ps) zero p lt e = ap (λ x. x ∷ ps) e
  row_from (q ∷ ps) (suc at) p lt e = let f : suc at + 1 ≡ suc (at + 1) = omega arith in rw f (row_from ps at p (omega (arith, lt)) e)

  -- a row that another one was put into behind its front: the front, and what is behind that place
  pub put_front : (ps qs : List (Place K V)) (at : ℕ) → at ≤ length ps → take at (take at ps ++ qs) ≡ take at ps
  put_front ps qs zero le = refl
  put_front [] qs (suc at) le = absurd (omega (arith, le))
  put_front (q ∷ ps) qs (suc at) le = ap (λ xs. q ∷ xs) (put_front ps qs at (omega (arith, le)))

  pub put_rest : (ps qs : List (Place K V)) (at : ℕ) (p : Place K V) → at ≤ length ps → drop (at + 1) (take at ps ++ p ∷ qs) ≡ qs
  put_rest ps qs zero p le = refl
  put_rest [] qs (suc at) p le = absurd (omega (arith, le))
  put_rest (q ∷ ps) qs (suc at) p le = let f : suc at + 1 ≡ suc (at + 1) = omega arith in rw f (put_rest ps qs at p (omega (arith, le)))
