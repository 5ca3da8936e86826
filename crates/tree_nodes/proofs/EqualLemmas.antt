-- Two lists compared pair by pair.
use Rattle.std.proofs.Common.{◌≡◌, ◌≤◌, ℕ, zero, suc, ◌+◌, Bool, true, ◌&&◌, List, [], ◌∷◌, length, drop, Option, Some, None, refl, sym, ap, ◌∙◌, arith}
use Rattle.std.specs.Prelude.{slice_get, IfSome, IfNone}
use Rattle.std.specs.declared.cmp.Ordering.{Ordering}
use Rattle.std.specs.Cmp.Lexicographic.{pointwise}
use Rattle.std.proofs.lemmas.List.{drop_all}
use Rattle.tree_nodes.specs.declared.arenas.Arenas.{Arenas}
use Rattle.tree_nodes.specs.declared.walk.Position.{Position}
use Rattle.tree_nodes.specs.Content.{pairs_of, IsSound}
use Rattle.tree_nodes.specs.Walk.{position, IsPosition}
use Rattle.tree_nodes.specs.Copy.{place, IsPositionOrEnd}
use Rattle.tree_nodes.proofs.SpotLemmas.{spot_pair}

module _ {X : Type 0} where
  pub drop_at : (n : ℕ) (xs : List X) (x : X) → slice_get xs n ≡ Some x → drop n xs ≡ x ∷ drop (n + 1) xs
  drop_at n [] x h = absurd (let e : None ≡ Some x = h in cc)
  drop_at zero (y ∷ xs) x h = let same : ◌≡◌ {A = Option X} (Some y) (Some x) = h in let e : y ≡ x = cc in ap (λ z. z ∷ xs) e
  drop_at (suc n) (y ∷ xs) x h = let more : suc n + 1 ≡ suc (n + 1) = omega arith in drop_at n xs x h ∙ ap (λ k. x ∷ drop k (y ∷ xs)) (sym more)

  module _ (E : X → X → Bool) (xs ys : List X) (n : ℕ) where
    pub step_equal : (x y : X) → slice_get xs n ≡ Some x → slice_get ys n ≡ Some y → pointwise E (drop n xs) (drop n ys) ≡ (E x y && pointwise E (drop (n + 1) xs) (drop (n + 1) ys))
    step_equal x y a b = rw (drop_at n xs x a, drop_at n ys y b) refl

    pub end_equal : length xs ≤ n → length ys ≤ n → pointwise E (drop n xs) (drop n ys) ≡ true
    end_equal a b = rw (drop_all n xs a, drop_all n ys b) refl

module _ {K V : Type 0} (a : Arenas K V) (n : ℕ) where
  pub end_position_answer : (r : Option (Position K V)) → IfNone r (n ≡ length (pairs_of a)) → IfSome r (λ s. position a s ≡ n) → place a r ≡ n
  end_position_answer None none some = sym none
  end_position_answer (Some s) none some = some

pub place_is : {K V : Type 0} (a : Arenas K V) (r : Option (Position K V)) → IfSome r (λ s. IsPosition a s) → IsPositionOrEnd a r
place_is a None is = tt
place_is a (Some s) is = is

module _ {K V : Type 0} (cmp : K → K → Ordering) (E : K × V → K × V → Bool) (a b : Arenas K V) (s : IsSound cmp a) (t : IsSound cmp b) (x y : Position K V) (is_x : IsPosition a x) (is_y : IsPosition b y) (together : position a x ≡ position b y)
    (p q : K × V) (at_x : slice_get x.leaf.now.array.pairs x.place ≡ Some p) (at_y : slice_get y.leaf.now.array.pairs y.place ≡ Some q) where
  -- the pairs at both places decide, and then those behind
  pub spots_equal : pointwise E (drop (position a x) (pairs_of a)) (drop (position a x) (pairs_of b)) ≡ (E p q && pointwise E (drop (position a x + 1) (pairs_of a)) (drop (position a x + 1) (pairs_of b)))
  spots_equal =
      step_equal E (pairs_of a) (pairs_of b) (position a x) p q
      ((spot_pair cmp a s x is_x).0 ∙ at_x)
      (ap (slice_get (pairs_of b)) together ∙ (spot_pair cmp b t y is_y).0 ∙ at_y)
