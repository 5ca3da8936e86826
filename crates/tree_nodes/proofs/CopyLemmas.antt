-- A list that grows behind its greatest key.
use Rattle.std.proofs.Common.{◌≡◌, ℕ, zero, suc, ◌+◌, ◌-◌, ◌≤◌, ◌<◌, true, false, List, [], ◌∷◌, ◌++◌, append_assoc, drop, length, take, Option, Some, None, refl, sym, ap, ◌∙◌, subst, arith}
use Rattle.std.proofs.Math.Seq.{take-add}
use Rattle.std.proofs.lemmas.List.{drop-drop}
use Rattle.std.specs.Prelude.{slice_get}
use Rattle.std.specs.declared.cmp.Ordering.{Ordering}
use Rattle.std.specs.declared.cmp.Ordering.TheVariants.{Less}
use Rattle.std.specs.Ordering.{is_lt, is_gt}
use Rattle.std.specs.Cmp.{IsTotalOrder}
use Rattle.std.specs.Map.{keys_of}
use Rattle.std.proofs.lemmas.Map.Keys.{sorted_head, sorted_tail}
use Rattle.leaf_array.specs.Pairs.{IsAscending}
use Rattle.leaf_array.specs.Edits.{upserted}
use Rattle.tree_nodes.specs.declared.arenas.Arenas.{Arenas}
use Rattle.tree_nodes.specs.declared.walk.Position.{Position}
use Rattle.tree_nodes.specs.Shape.{AllKeys}
use Rattle.tree_nodes.specs.Content.{pairs_of, IsSound}
use Rattle.tree_nodes.specs.Copy.{place, IsExtended, IsPositionOrEnd}
use Rattle.tree_nodes.specs.Depth.{ascending_headroom}
use Rattle.tree_nodes.specs.Walk.{position, IsPosition}
use Rattle.tree_nodes.proofs.SpotLemmas.{spot_pair}
use Rattle.tree_nodes.proofs.ShapeLemmas.{turned, all_weaken}
use Rattle.tree_nodes.proofs.LeafLemmas.{filter_all, filter_none}
use Rattle.tree_nodes.proofs.RisingLemmas.{key_in}
use Rattle.tree_nodes.proofs.WayLemmas.{some_same}

module _ {K V : Type 0} {cmp : K → K → Ordering} (o : IsTotalOrder cmp) where
  -- an upsert of a key above all others puts its pair behind them
  pub upserted_behind : (key : K) (val : V) (ps : List (K × V)) → AllKeys (λ k. cmp k key ≡ Less) ps → upserted cmp key val ps ≡ ps ++ (key, val) ∷ []
  upserted_behind key val ps less =
      rw (
        filter_all (λ k. is_gt (cmp key k)) ps (all_weaken (λ k. cmp k key ≡ Less) (λ k. is_gt (cmp key k) ≡ true) (λ k h. ap is_gt (turned o k key h)) ps less),
        filter_none (λ k. is_lt (cmp key k)) ps (all_weaken (λ k. cmp k key ≡ Less) (λ k. is_lt (cmp key k) ≡ false) (λ k h. ap is_lt (turned o k key h)) ps less),
      ) refl

  -- what comes before a pair of an ascending list is below it
  pub front_less : (n : ℕ) (ps : List (K × V)) (p : K × V) → IsAscending cmp ps → slice_get ps n ≡ Some p → AllKeys (λ k. cmp k p.0 ≡ Less) (take n ps)
  front_less n [] p up h = absurd (let e : None ≡ Some p = h in cc)
  front_less zero (q ∷ ps) p up h = tt
  front_less (suc n) (q ∷ ps) p up h = (key_in (λ y. cmp q.0 y ≡ Less) ps n p (sorted_head cmp q.0 (keys_of ps) up) h, front_less n ps p (sorted_tail cmp q.0 (keys_of ps) up) h)

  pub take_next : (n : ℕ) (ps : List (K × V)) (p : K × V) → slice_get ps n ≡ Some p → take (n + 1) ps ≡ take n ps ++ p ∷ []
  take_next n [] p h = absurd (let e : None ≡ Some p = h in cc)
  take_next zero (q ∷ ps) p h = ap (λ x. x ∷ []) (some_same h)
  take_next (suc n) (q ∷ ps) p h = let more : suc n + 1 ≡ suc (n + 1) = omega arith in ap (λ k. take k (q ∷ ps)) more ∙ ap (λ xs. q ∷ xs) (take_next n ps p h)

-- a pair of clones that are the same is the pair itself
pub copied_pair : {K V : Type 0} (ps : List (K × V)) {k l : K} {v w : V} {qs : List (K × V)} → l ≡ k → w ≡ v → qs ≡ ps ++ (l, w) ∷ [] → qs ≡ ps ++ (k, v) ∷ []
copied_pair ps key val e = rw (sym key, sym val) e

-- ---- a front of a list behind another list

module _ {X : Type 0} where
  pub take_behind : (xs ys : List X) (k j : ℕ) → k ≡ length xs + j → take k (xs ++ ys) ≡ xs ++ take j ys
  take_behind [] ys k j e = let same : k ≡ j = omega (arith, e) in ap (λ (n : ℕ). take n ys) same
  take_behind (x ∷ xs) ys zero j e = absurd (omega (arith, e))
  take_behind (x ∷ xs) ys (suc k) j e = ap (λ zs. x ∷ zs) (take_behind xs ys k j (omega (arith, e)))

  pub slice_taken : (j n : ℕ) (ys : List X) → j < n → slice_get (take n ys) j ≡ slice_get ys j
  slice_taken j zero ys h = absurd (omega (arith, h))
  slice_taken j (suc n) [] h = refl
  slice_taken zero (suc n) (y ∷ ys) h = refl
  slice_taken (suc j) (suc n) (y ∷ ys) h = slice_taken j n ys (omega (arith, h))

  pub slice_behind : (xs ys : List X) (k j : ℕ) → k ≡ length xs + j → slice_get (xs ++ ys) k ≡ slice_get ys j
  slice_behind [] ys k j e = let same : k ≡ j = omega (arith, e) in ap (slice_get ys) same
  slice_behind (x ∷ xs) ys zero j e = absurd (omega (arith, e))
  slice_behind (x ∷ xs) ys (suc k) j e = slice_behind xs ys k j (omega (arith, e))

  pub slice_dropped : (s k j : ℕ) (xs : List X) → k ≡ s + j → slice_get (drop s xs) j ≡ slice_get xs k
  slice_dropped zero k j xs e = let same : j ≡ k = omega (arith, e) in ap (slice_get xs) same
  slice_dropped (suc s) k j [] e = refl
  slice_dropped (suc s) zero j (x ∷ xs) e = absurd (omega (arith, e))
  slice_dropped (suc s) (suc k) j (x ∷ xs) e = slice_dropped s k j xs (omega (arith, e))

  -- two stretches in a row are one
  stretches : (xs : List X) (s p q : ℕ) → s ≤ p → p ≤ q → take (p - s) (drop s xs) ++ take (q - p) (drop p xs) ≡ take (q - s) (drop s xs)
  stretches xs s p q l m =
      let end : s + (p - s) ≡ p = omega (arith, l) in
      let both : p - s + (q - p) ≡ q - s = omega (arith, l, m) in
      sym (ap (λ (n : ℕ). take n (drop s xs)) (sym both) ∙ (take-add (p - s) (q - p) (drop s xs) ∙ ap (λ ys. take (p - s) (drop s xs) ++ take (q - p) ys) (drop-drop (p - s) s xs ∙ ap (λ (n : ℕ). drop n xs) end)))

-- ---- a run that goes on

module _ {K V : Type 0} {cmp : K → K → Ordering} (o : IsTotalOrder cmp) (a : Arenas K V) (s : IsSound cmp a) (base : List (K × V)) (start count room : ℕ) (b : Arenas K V) (r : Option (Position K V)) (left : ℕ) (e : IsExtended cmp a base start count room b r left) (up : IsAscending cmp (base ++ take count (drop start (pairs_of a)))) where
  abbrev whole : List (K × V)
  whole = drop start (pairs_of a)

  abbrev done : ℕ
  done = place a r - start

  -- what is left comes behind what is there
  pub rest_rising : IsAscending cmp (pairs_of b ++ take left (drop (place a r) (pairs_of a)))
  rest_rising =
      let upto = e.upto in
      let from = e.from in
      let more : start + count - place a r ≡ left = omega (arith, upto) in
      let all : start + count - start ≡ count = omega arith in
      let line : take done whole ++ take left (drop (place a r) (pairs_of a)) ≡ take count whole = ap (λ (n : ℕ). take done whole ++ take n (drop (place a r) (pairs_of a))) (sym more) ∙ (stretches (pairs_of a) start (place a r) (start + count) from (omega (arith, upto)) ∙ ap (λ (n : ℕ). take n whole) all) in
      subst (IsAscending cmp) (sym (ap (λ ps. ps ++ take left (drop (place a r) (pairs_of a))) e.pairs ∙ (append_assoc base (take done whole) (take left (drop (place a r) (pairs_of a))) ∙ ap (λ ps. base ++ ps) line))) up

  -- a run behind a run
  pub extended_then : (c : Arenas K V) (q : Option (Position K V)) (rest : ℕ) → IsExtended cmp a (pairs_of b) (place a r) left (ascending_headroom cmp b) c q rest → IsExtended cmp a base start count room c q rest
  extended_then c q rest f = record {
    sound = f.sound;
    spot = f.spot;
    from = (let x = e.from in let y = f.from in omega (arith, x, y));
    upto = (let x = e.upto in let y = f.upto in omega (arith, x, y));
    pairs = f.pairs ∙ (ap (λ ps. ps ++ take (place a q - place a r) (drop (place a r) (pairs_of a))) e.pairs ∙ (append_assoc base (take done whole) (take (place a q - place a r) (drop (place a r) (pairs_of a))) ∙ ap (λ ps. base ++ ps) (stretches (pairs_of a) start (place a r) (place a q) e.from f.from)));
    places = (let x = e.places in let y = f.places in let u = e.from in let v = f.from in omega (arith, x, y, u, v));
  }

  module _ (spot : Position K V) (at : r ≡ Some spot) (p : K × V) (there : slice_get spot.leaf.now.array.pairs spot.place ≡ Some p) (some : 0 < left) where
    pub is_spot : IsPosition a spot
    is_spot = subst (IsPositionOrEnd a) at e.spot

    stands : place a r ≡ position a spot
    stands = ap (place a) at

    here : slice_get whole done ≡ Some p
    here = slice_dropped start (place a r) done (pairs_of a) (let x = e.from in omega (arith, x)) ∙ (ap (slice_get (pairs_of a)) stands ∙ ((spot_pair cmp a s spot is_spot).0 ∙ there))
