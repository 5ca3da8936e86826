-- The pairs at places in the leaves.
use Rattle.std.proofs.Common.{◌≡◌, ◌≢◌, ◌≤◌, ◌<◌, ◌⊎◌, inl, inr, ℕ, zero, suc, ◌+◌, true, false, List, [], ◌∷◌, ◌++◌, length, Some, None, refl, sym, ap, ◌∙◌, subst, arith}
use Rattle.std.specs.Prelude.{slice_get, nat_lt}
use Rattle.std.specs.Option.{option_map}
use Rattle.std.specs.declared.cmp.Ordering.{Ordering}
use Rattle.std.specs.Ordering.{is_lt}
use Rattle.std.specs.Cmp.{IsTotalOrder}
use Rattle.std.proofs.lemmas.Bool.Decides.{leb_tells}
use Rattle.std.proofs.lemmas.List.{length-append}
use Rattle.leaf_array.specs.Pairs.{IsAscending, has_key}
use Rattle.leaf_array.specs.Cells.{lesser}
use Rattle.tree_nodes.specs.SplitPoints.{is_keyed}
use Rattle.tree_nodes.proofs.InsertionPointLemmas.{has_keyed}
use Rattle.tree_nodes.specs.declared.leaf.Leaf.{Leaf}
use Rattle.tree_nodes.specs.declared.walk.Position.{Position}
use Rattle.tree_nodes.specs.declared.arenas.Arenas.{Arenas}
use Rattle.tree_nodes.specs.Shape.{joined_over, leaf_pairs, pairs_under, Stands}
use Rattle.tree_nodes.specs.Content.{content_of, pairs_of, leaves_of, HasNoTree, IsSound}
use Rattle.tree_nodes.specs.Walk.{pairs_in_leaf, position, IsPosition}
use Rattle.tree_nodes.proofs.RowLemmas.{parting, before_parted, joined_over_parted}
use Rattle.tree_nodes.proofs.WalkLemmas.{once, all_held, held_is}
use Rattle.tree_nodes.proofs.RisingLemmas.{rising_under, earlier, not_earlier}
use Rattle.tree_nodes.proofs.GrowLemmas.{none_rising}

module _ {X : Type 0} where
  slice_fore : (ms ys : List X) (p : ℕ) → p < length ms → slice_get (ms ++ ys) p ≡ slice_get ms p
  slice_fore [] ys p h = absurd (omega (arith, h))
  slice_fore (m ∷ ms) ys zero h = refl
  slice_fore (m ∷ ms) ys (suc p) h = slice_fore ms ys p (omega (arith, h))

  -- an element of the middle of a list
  slice_middle : (xs ms ys : List X) (k p : ℕ) → k ≡ length xs + p → p < length ms → slice_get (xs ++ (ms ++ ys)) k ≡ slice_get ms p
  slice_middle [] ms ys k p e h = let same : k ≡ p = omega (arith, e) in ap (slice_get (ms ++ ys)) same ∙ slice_fore ms ys p h
  slice_middle (x ∷ xs) ms ys zero p e h = absurd (omega (arith, e))
  slice_middle (x ∷ xs) ms ys (suc k) p e h = slice_middle xs ms ys k p (omega (arith, e)) h

module _ {K V : Type 0} (cmp : K → K → Ordering) (a : Arenas K V) (s : IsSound cmp a) (spot : Position K V) (is : IsPosition a spot) where
  -- the pair of a place stands at its position
  pub spot_pair : (slice_get (pairs_of a) (position a spot) ≡ slice_get spot.leaf.now.array.pairs spot.place) × (position a spot < length (pairs_of a))
  spot_pair =
      let n = spot.at in
      let f = pairs_in_leaf a in
      let p = parting n (leaves_of a) is.insertion_point.own.1 in
      let same : f n ≡ spot.leaf.now.array.pairs = held_is a n spot.leaf.now is.insertion_point.there in
      let within : spot.place < length (f n) = subst (λ (ps : List (K × V)). spot.place < length ps) (sym same) is.within in
      let before = before_parted f n (leaves_of a) p.fore p.rear p.all (once cmp a s is.insertion_point.own.0 n) in
      let all : pairs_of a ≡ joined_over f p.fore ++ (f n ++ joined_over f p.rear) = all_held a ∙ joined_over_parted f n (leaves_of a) p.fore p.rear p.all in
      let long : length (pairs_of a) ≡ length (joined_over f p.fore) + (length (f n) + length (joined_over f p.rear)) = ap length all ∙ simp length-append in
      (ap (λ ps. slice_get ps (position a spot)) all ∙ slice_middle (joined_over f p.fore) (f n) (joined_over f p.rear) (position a spot) spot.place (omega (arith, before)) within ∙ ap (λ ps. slice_get ps spot.place) same, omega (arith, before, within, long))

module _ {K V : Type 0} (cmp : K → K → Ordering) (o : IsTotalOrder cmp) (a : Arenas K V) (s : IsSound cmp a) where
  -- the pairs are strictly ascending by key
  pub rising_of : IsAscending cmp (pairs_of a)
  rising_of = split s.stands
    where
      split : HasNoTree a ⊎ (a.height ≢ 0) × Stands cmp (content_of a) a.height a.root → IsAscending cmp (pairs_of a)
      split (inl bare) =
          let none : pairs_of a ≡ [] = ap (λ n. pairs_under (content_of a) n a.root) bare.flat ∙ ap (λ x. leaf_pairs (option_map (λ (l : Leaf K V). l.array) x)) (bare.empty a.root) in
          subst (IsAscending cmp) (sym none) (none_rising cmp)
      split (inr stands) = rising_under o (content_of a) a.height a.root None None stands.1.tree

  module _ (x y : Position K V) (is_x : IsPosition a x) (is_y : IsPosition a y) (p q : K × V) (at_x : slice_get x.leaf.now.array.pairs x.place ≡ Some p) (at_y : slice_get y.leaf.now.array.pairs y.place ≡ Some q) where
    -- keys tell which of two places comes first
    pub key_order : is_lt (cmp p.0 q.0) ≡ nat_lt (position a x) (position a y)
    key_order =
        let first : slice_get (pairs_of a) (position a x) ≡ Some p = (spot_pair cmp a s x is_x).0 ∙ at_x in
        let second : slice_get (pairs_of a) (position a y) ≡ Some q = (spot_pair cmp a s y is_y).0 ∙ at_y in
        split first second (leb_tells (suc (position a x)) (position a y))
      where
        split : slice_get (pairs_of a) (position a x) ≡ Some p → slice_get (pairs_of a) (position a y) ≡ Some q → ((nat_lt (position a x) (position a y) ≡ true) × (suc (position a x) ≤ position a y)) ⊎ ((nat_lt (position a x) (position a y) ≡ false) × (position a y < suc (position a x))) → is_lt (cmp p.0 q.0) ≡ nat_lt (position a x) (position a y)
        split first second (inl d) = ap is_lt (earlier o (pairs_of a) (position a x) (position a y) p q rising_of first second (omega (arith, d.1))) ∙ sym d.0
        split first second (inr d) = not_earlier o (pairs_of a) (position a x) (position a y) p q rising_of first second (omega (arith, d.1)) ∙ sym d.0

  -- a key is there where the pair behind the lesser ones has it
  pub has_there : (key : K) (x : Position K V) → IsPosition a x → position a x ≡ lesser cmp key (pairs_of a) → has_key cmp key (pairs_of a) ≡ is_keyed cmp key (slice_get x.leaf.now.array.pairs x.place)
  has_there key x is e =
      has_keyed cmp o key (pairs_of a) rising_of ∙ ap (λ n. is_keyed cmp key (slice_get (pairs_of a) n)) (sym e) ∙ ap (is_keyed cmp key) (spot_pair cmp a s x is).0
