-- The pairs of a leaf from a place on.
use Rattle.std.proofs.Common.{◌≡◌, ◌≤◌, ◌<◌, inl, inr, ℕ, zero, suc, ◌+◌, ◌-◌, true, false, cond, List, [], ◌∷◌, ◌++◌, drop, length, take, Option, Some, None, refl, sym, ap, ◌∙◌, subst, arith}
use Rattle.std.proofs.Math.Seq.{take-add}
use Rattle.std.proofs.lemmas.Bool.{cases_lt, false≢true}
use Rattle.std.proofs.lemmas.List.{drop-drop, length-append, length-drop}
use Rattle.std.specs.Prelude.{IfSome}
use Rattle.std.specs.Cmp.{IsTotalOrder}
use Rattle.std.specs.BTreeMap.Range.{is_from_start}
use Rattle.std.specs.Ordering.{is_le}
use Rattle.std.specs.declared.cmp.Ordering.{Ordering}
use Rattle.std.specs.declared.cmp.Ordering.TheVariants.{Less, Equal, Greater}
use Rattle.std.specs.declared.ops.Bound.TheVariants.{Included}
use Rattle.tree_nodes.specs.Bounds.{before_start}
use Rattle.tree_nodes.specs.declared.arenas.Arenas.{Arenas}
use Rattle.tree_nodes.specs.declared.walk.Position.{Position}
use Rattle.tree_nodes.specs.Content.{pairs_of, leaves_of, IsSound}
use Rattle.tree_nodes.specs.Shape.{AllKeys, joined_over}
use Rattle.tree_nodes.specs.Walk.{pairs_in_leaf, position, IsPosition}
use Rattle.tree_nodes.proofs.RowLemmas.{parting, before_parted, joined_over_parted}
use Rattle.tree_nodes.proofs.ShapeLemmas.{all_append}
use Rattle.tree_nodes.proofs.WalkLemmas.{once, all_held, held_is}

module _ {X : Type 0} where
  drop_fore : (ms ys : List X) (p : ℕ) → p ≤ length ms → drop p (ms ++ ys) ≡ drop p ms ++ ys
  drop_fore ms ys zero h = refl
  drop_fore [] ys (suc p) h = absurd (omega (arith, h))
  drop_fore (m ∷ ms) ys (suc p) h = drop_fore ms ys p (omega (arith, h))

  drop_middle : (xs ms ys : List X) (k p : ℕ) → k ≡ length xs + p → p ≤ length ms → drop k (xs ++ (ms ++ ys)) ≡ drop p ms ++ ys
  drop_middle [] ms ys k p e h = let same : k ≡ p = omega (arith, e) in ap (λ (n : ℕ). drop n (ms ++ ys)) same ∙ drop_fore ms ys p h
  drop_middle (x ∷ xs) ms ys zero p e h = absurd (omega (arith, e))
  drop_middle (x ∷ xs) ms ys (suc k) p e h = drop_middle xs ms ys k p (omega (arith, e)) h

  pub take_fore : (n : ℕ) (ms ys : List X) → n ≤ length ms → take n (ms ++ ys) ≡ take n ms
  take_fore zero ms ys h = refl
  take_fore (suc n) [] ys h = absurd (omega (arith, h))
  take_fore (suc n) (m ∷ ms) ys h = ap (λ zs. m ∷ zs) (take_fore n ms ys (omega (arith, h)))

module _ {K V : Type 0} (P : K → Type 0) where
  pub all_fewer : (m k : ℕ) (ps : List (K × V)) → k ≤ m → AllKeys P (take m ps) → AllKeys P (take k ps)
  all_fewer m zero ps h a = tt
  all_fewer zero (suc k) ps h a = absurd (omega (arith, h))
  all_fewer (suc m) (suc k) [] h a = tt
  all_fewer (suc m) (suc k) (p ∷ ps) h a = (a.0, all_fewer m k ps (omega (arith, h)) a.1)

  -- what holds of a front holds of each part of it
  all_part : (m n k : ℕ) (ps : List (K × V)) → n + k ≤ m → AllKeys P (take m ps) → AllKeys P (take k (drop n ps))
  all_part m zero k ps h a = all_fewer m k ps (omega (arith, h)) a
  all_part m (suc n) zero [] h a = tt
  all_part m (suc n) (suc k) [] h a = tt
  all_part zero (suc n) k (p ∷ ps) h a = absurd (omega (arith, h))
  all_part (suc m) (suc n) k (p ∷ ps) h a = all_part m n k ps (omega (arith, h)) a.1

  -- what holds of a run, and of one behind it, holds of both
  runs_both : (m n start : ℕ) (ps : List (K × V)) → AllKeys P (take m (drop start ps)) → AllKeys P (take n (drop (start + m) ps)) → AllKeys P (take (m + n) (drop start ps))
  runs_both m n start ps a b =
      subst (AllKeys P) (sym (take-add m n (drop start ps)))
      (all_append P (take m (drop start ps)) (take n (drop m (drop start ps))) a (subst (λ qs. AllKeys P (take n qs)) (sym (drop-drop m start ps)) b))

pub bounded_both : {X K V : Type 0} (P : X → K → Type 0) (x : Option X) (m n start : ℕ) (ps : List (K × V)) → IfSome x (λ y. AllKeys (P y) (take m (drop start ps))) → IfSome x (λ y. AllKeys (P y) (take n (drop (start + m) ps))) → IfSome x (λ y. AllKeys (P y) (take (m + n) (drop start ps)))
bounded_both P None m n start ps a b = tt
bounded_both P (Some y) m n start ps a b = runs_both (P y) m n start ps a b

module _ {K : Type 0} {cmp : K → K → Ordering} (o : IsTotalOrder cmp) (key : K) where
  not_le : (k : K) → is_le (cmp key k) ≡ false → cmp k key ≡ Less
  not_le k h =
      (elim (cmp key k) as (λ c. cmp key k ≡ c → is_le c ≡ false → cmp k key ≡ Less) [
        | Less ↦ λ c h. absurd (false≢true (sym h))
        | Equal ↦ λ c h. absurd (false≢true (sym h))
        | Greater ↦ λ c h. rw c at (o.antisymm k key)
      ]) refl h

  -- the keys before a bound are below it
  pub below_start : {V : Type 0} (ps : List (K × V)) → AllKeys (λ k. cmp k key ≡ Less) (take (before_start cmp (Included key) ps) ps)
  below_start [] = tt
  below_start (p ∷ ps) =
      (elim (is_from_start cmp (Included key) p.0) as (λ b. is_from_start cmp (Included key) p.0 ≡ b → AllKeys (λ k. cmp k key ≡ Less) (take (cond b 0 (suc (before_start cmp (Included key) ps))) (p ∷ ps))) [
        | true ↦ λ e. tt
        | false ↦ λ e. (not_le p.0 e, below_start ps)
      ]) refl

module _ {K V : Type 0} (cmp : K → K → Ordering) (a : Arenas K V) (s : IsSound cmp a) (spot : Position K V) (is : IsPosition a spot) where
  -- what is left of the tree from a place on begins with what is left of its leaf
  pub leaf_first : (back : List (K × V)) × (drop (position a spot) (pairs_of a) ≡ drop spot.place spot.leaf.now.array.pairs ++ back)
  leaf_first =
      let n = spot.at in
      let f = pairs_in_leaf a in
      let p = parting n (leaves_of a) is.insertion_point.own.1 in
      let same : f n ≡ spot.leaf.now.array.pairs = held_is a n spot.leaf.now is.insertion_point.there in
      let within : spot.place ≤ length (f n) = subst (λ (ps : List (K × V)). spot.place ≤ length ps) (sym same) is.insertion_point.most in
      let before = before_parted f n (leaves_of a) p.fore p.rear p.all (once cmp a s is.insertion_point.own.0 n) in
      let all : pairs_of a ≡ joined_over f p.fore ++ (f n ++ joined_over f p.rear) = all_held a ∙ joined_over_parted f n (leaves_of a) p.fore p.rear p.all in
      (joined_over f p.rear, ap (λ ps. drop (position a spot) ps) all ∙ (drop_middle (joined_over f p.fore) (f n) (joined_over f p.rear) (position a spot) spot.place (omega (arith, before)) within ∙ ap (λ ps. drop spot.place ps ++ joined_over f p.rear) same))

  -- so many pairs are left from a place on, and those of its leaf among them
  pub run_within : (n : ℕ) → n + spot.place ≤ length spot.leaf.now.array.pairs → position a spot < length (pairs_of a) → position a spot + n ≤ length (pairs_of a)
  run_within n h less =
      let long = ap length leaf_first.1 in
      let left = length-drop (position a spot) (pairs_of a) in
      let own = length-drop spot.place spot.leaf.now.array.pairs in
      let both = length-append (drop spot.place spot.leaf.now.array.pairs) leaf_first.0 in
      omega (arith, h, less, long, left, own, both)

  pub run_below : (o : IsTotalOrder cmp) (key : K) (n : ℕ) → n ≡ before_start cmp (Included key) spot.leaf.now.array.pairs - spot.place → before_start cmp (Included key) spot.leaf.now.array.pairs ≤ length spot.leaf.now.array.pairs → AllKeys (λ k. cmp k key ≡ Less) (take n (drop (position a spot) (pairs_of a)))
  run_below o key n e most =
      let end = before_start cmp (Included key) spot.leaf.now.array.pairs in
      let ps = spot.leaf.now.array.pairs in
      let own = length-drop spot.place ps in
      let front : take n (drop (position a spot) (pairs_of a)) ≡ take n (drop spot.place ps) = ap (take n) leaf_first.1 ∙ take_fore n (drop spot.place ps) leaf_first.0 (omega (arith, e, most, own)) in
      subst (AllKeys (λ k. cmp k key ≡ Less)) (sym front) (elim (cases_lt end spot.place) [
        | inl none ↦ let zero' : n ≡ 0 = omega (arith, e, none) in subst (λ (k : ℕ). AllKeys (λ y. cmp y key ≡ Less) (take k (drop spot.place ps))) (sym zero') tt
        | inr some ↦ all_part (λ k. cmp k key ≡ Less) end spot.place n ps (omega (arith, e, some)) (below_start o key ps)
      ])
