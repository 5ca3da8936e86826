-- Places in the leaves of a tree, as ranks.
use Rattle.std.proofs.Common.{◌≡◌, ◌≤◌, ℕ, suc, ◌+◌, ◌-◌, true, cond, List, [], ◌∷◌, ◌++◌, length, refl, sym, ap, ◌∙◌, arith}
use Rattle.std.specs.Prelude.{◌==◌, slice_get, false}
use Rattle.std.proofs.lemmas.Grind.{common_steps}
use Rattle.std.specs.declared.cmp.Ordering.{Ordering}
use Rattle.std.specs.declared.ops.Bound.{Bound}
use Rattle.std.specs.BTreeMap.Range.{is_from_start, is_past_end}
use Rattle.tree_nodes.specs.declared.walk.Position.{Position}
use Rattle.tree_nodes.specs.declared.arenas.Arenas.{Arenas}
use Rattle.tree_nodes.specs.Shape.{joined_over}
use Rattle.tree_nodes.specs.Content.{pairs_of, leaves_of, IsSound}
use Rattle.tree_index.specs.Cursor.{before_start, up_to_end}
use Rattle.tree_nodes.specs.Walk.{pairs_in_leaf, position, IsPosition}
use Rattle.tree_index.specs.LeafCursor.{IsPart, ranked}
use Rattle.tree_nodes.proofs.RowLemmas.{parting, before_parted, joined_over_parted}
use Rattle.tree_nodes.proofs.WalkLemmas.{once, all_held, held_is}

module _ {K V : Type 0} where
  pub ranked_above : (n : ℕ) (ps : List (K × V)) → ranked (n + 1) ps ≡ slice_get ps n
  ranked_above n ps =
      let away : (n + 1 == 0) ≡ false = grind (arith, common_steps) in
      let back : n + 1 - 1 ≡ n = omega arith in
      rw away (ap (slice_get ps) back)

  -- the pairs of the leaf of a place stand within those of the tree
  pub spot_part : (a : Arenas K V) (spot : Position K V) → IsPosition a spot → IsPart spot.leaf.now.array.pairs (pairs_of a)
  spot_part a spot is =
      let n = spot.at in
      let f = pairs_in_leaf a in
      let p = parting n (leaves_of a) is.insertion_point.own.1 in
      let same : f n ≡ spot.leaf.now.array.pairs = held_is a n spot.leaf.now is.insertion_point.there in
      record {
        fore = joined_over f p.fore;
        rear = joined_over f p.rear;
        all = all_held a ∙ joined_over_parted f n (leaves_of a) p.fore p.rear p.all ∙ ap (λ ps. joined_over f p.fore ++ (ps ++ joined_over f p.rear)) same;
      }

-- where what is counted at the front of a list ends within a part of it, it is counted in that part
module _ {K V : Type 0} (cmp : K → K → Ordering) (b : Bound K) where
  start_front : (xs rear : List (K × V)) → before_start cmp b (xs ++ rear) ≤ length xs → before_start cmp b xs ≡ before_start cmp b (xs ++ rear)
  start_front [] rear = λ m. omega (arith, m)
  start_front (x ∷ xs) rear =
      elim (is_from_start cmp b x.0) as (λ t. cond t 0 (suc (before_start cmp b (xs ++ rear))) ≤ suc (length xs) → cond t 0 (suc (before_start cmp b xs)) ≡ cond t 0 (suc (before_start cmp b (xs ++ rear)))) [
        | true ↦ λ m. refl
        | false ↦ λ m. ap suc (start_front xs rear (omega (arith, m)))
      ]

  start_in : (fore xs rear : List (K × V)) (p : ℕ) → before_start cmp b (fore ++ (xs ++ rear)) ≡ length fore + p → p ≤ length xs → before_start cmp b xs ≡ p
  start_in [] xs rear p = λ e m. omega (arith, start_front xs rear (omega (arith, e, m)), e)
  start_in (f ∷ fore) xs rear p =
      elim (is_from_start cmp b f.0) as (λ t. cond t 0 (suc (before_start cmp b (fore ++ (xs ++ rear)))) ≡ suc (length fore) + p → p ≤ length xs → before_start cmp b xs ≡ p) [
        | true ↦ λ e m. absurd (omega (arith, e))
        | false ↦ λ e m. start_in fore xs rear p (omega (arith, e)) m
      ]

  end_front : (xs rear : List (K × V)) → up_to_end cmp b (xs ++ rear) ≤ length xs → up_to_end cmp b xs ≡ up_to_end cmp b (xs ++ rear)
  end_front [] rear = λ m. omega (arith, m)
  end_front (x ∷ xs) rear =
      elim (is_past_end cmp b x.0) as (λ t. cond t 0 (suc (up_to_end cmp b (xs ++ rear))) ≤ suc (length xs) → cond t 0 (suc (up_to_end cmp b xs)) ≡ cond t 0 (suc (up_to_end cmp b (xs ++ rear)))) [
        | true ↦ λ m. refl
        | false ↦ λ m. ap suc (end_front xs rear (omega (arith, m)))
      ]

  end_in : (fore xs rear : List (K × V)) (p : ℕ) → up_to_end cmp b (fore ++ (xs ++ rear)) ≡ length fore + p → p ≤ length xs → up_to_end cmp b xs ≡ p
  end_in [] xs rear p = λ e m. omega (arith, end_front xs rear (omega (arith, e, m)), e)
  end_in (f ∷ fore) xs rear p =
      elim (is_past_end cmp b f.0) as (λ t. cond t 0 (suc (up_to_end cmp b (fore ++ (xs ++ rear)))) ≡ suc (length fore) + p → p ≤ length xs → up_to_end cmp b xs ≡ p) [
        | true ↦ λ e m. absurd (omega (arith, e))
        | false ↦ λ e m. end_in fore xs rear p (omega (arith, e)) m
      ]

module _ {K V : Type 0} (cmp : K → K → Ordering) (a : Arenas K V) (s : IsSound cmp a) (spot : Position K V) (is : IsPosition a spot) (b : Bound K) where
  position_there : position a spot ≡ length (spot_part a spot is).fore + spot.place
  unfolding spot_part
  position_there =
      let n = spot.at in
      let p = parting n (leaves_of a) is.insertion_point.own.1 in
      ap (λ m. m + spot.place) (before_parted (pairs_in_leaf a) n (leaves_of a) p.fore p.rear p.all (once cmp a s is.insertion_point.own.0 n))

  -- the place of the first pair within a bound is the first within it of its leaf
  pub start_there : position a spot ≡ before_start cmp b (pairs_of a) → before_start cmp b spot.leaf.now.array.pairs ≡ spot.place
  start_there e =
      let p = spot_part a spot is in
      start_in cmp b p.fore spot.leaf.now.array.pairs p.rear spot.place (ap (before_start cmp b) (sym p.all) ∙ sym e ∙ position_there) (omega (arith, is.within))

  -- and that of the last one the last
  pub end_there : position a spot + 1 ≡ up_to_end cmp b (pairs_of a) → up_to_end cmp b spot.leaf.now.array.pairs ≡ spot.place + 1
  end_there e =
      let p = spot_part a spot is in
      let last : up_to_end cmp b (pairs_of a) ≡ length p.fore + (spot.place + 1) = omega (arith, e, position_there) in
      end_in cmp b p.fore spot.leaf.now.array.pairs p.rear (spot.place + 1) (ap (up_to_end cmp b) (sym p.all) ∙ last) (omega (arith, is.within))
