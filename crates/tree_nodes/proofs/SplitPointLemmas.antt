-- The pairs on both sides of a cut.
use Rattle.std.proofs.Common.{◌≡◌, ◌<◌, ℕ, zero, suc, ◌-◌, true, false, cond, List, [], ◌∷◌, length, take, drop, Option, Some, None, refl, sym, ◌∙◌, subst, arith}
use Rattle.std.specs.declared.cmp.Ordering.{Ordering}
use Rattle.std.specs.declared.cmp.Ordering.TheVariants.{Less, Equal, Greater}
use Rattle.std.specs.Ordering.{is_gt}
use Rattle.std.specs.Cmp.{IsTotalOrder}
use Rattle.leaf_array.specs.Pairs.{IsAscending}
use Rattle.tree_nodes.specs.Shape.{IsOver, IsUpTo, IsWithin, AllKeys}
use Rattle.tree_nodes.specs.declared.leaf.SplitPoint.{SplitPoint}
use Rattle.tree_nodes.specs.SplitPoints.{IsSplitPoint, key_at}
use Rattle.tree_nodes.proofs.ShapeLemmas.{turned}
use Rattle.tree_nodes.proofs.FocusLemmas.{IsUnder}
use Rattle.tree_nodes.proofs.HalfLemmas.{all_at, cut_at}

module _ {K V : Type 0} where
  all_take : (P : K → Type 0) (n : ℕ) (ps : List (K × V)) → AllKeys P ps → AllKeys P (take n ps)
  all_take P zero ps a = tt
  all_take P (suc n) [] a = tt
  all_take P (suc n) (p ∷ ps) a = (a.0, all_take P n ps a.1)

  all_drop : (P : K → Type 0) (n : ℕ) (ps : List (K × V)) → AllKeys P ps → AllKeys P (drop n ps)
  all_drop P zero ps a = a
  all_drop P (suc n) [] a = tt
  all_drop P (suc n) (p ∷ ps) a = all_drop P n ps a.1

  all_both : (P Q : K → Type 0) (ps : List (K × V)) → AllKeys P ps → AllKeys Q ps → AllKeys (λ k. P k × Q k) ps
  all_both P Q [] a b = tt
  all_both P Q (p ∷ ps) a b = ((a.0, b.0), all_both P Q ps a.1 b.1)

  all_map : (P Q : K → Type 0) → ((k : K) → P k → Q k) → (ps : List (K × V)) → AllKeys P ps → AllKeys Q ps
  all_map P Q f [] a = tt
  all_map P Q f (p ∷ ps) a = (f p.0 a.0, all_map P Q f ps a.1)

  -- the first key behind a place
  pub behind : (n : ℕ) (ps : List (K × V)) → n < length ps → (k : K) × (key_at ps n ≡ Some k)
  behind n [] h = absurd (omega (arith, h))
  behind zero (p ∷ ps) h = (p.0, refl)
  behind (suc n) (p ∷ ps) h = behind n ps (omega (arith, h))

  key_at_drop : (n : ℕ) (ps : List (K × V)) → key_at (drop n ps) 0 ≡ key_at ps n
  key_at_drop zero ps = refl
  key_at_drop (suc n) [] = refl
  key_at_drop (suc n) (p ∷ ps) = key_at_drop n ps

module _ {K : Type 0} (cmp : K → K → Ordering) (o : IsTotalOrder cmp) where
  less_upto_less : (x y z : K) → cmp x y ≡ Less → is_gt (cmp y z) ≡ false → cmp x z ≡ Less
  less_upto_less x y z l g = split (cmp y z) refl g
    where
      split : (r : Ordering) → cmp y z ≡ r → is_gt r ≡ false → cmp x z ≡ Less
      split Less e h = o.trans x y z l e
      split Equal e h = let t : cmp z x ≡ Greater = sym (o.congr y z x e) ∙ turned o x y l in rw t at (o.antisymm x z)
      split Greater e h = cc

  under_of : (sep k : K) (upto : Option K) → cmp sep k ≡ Less → IsUpTo cmp upto k → IsUnder cmp upto sep
  under_of sep k None l u = tt
  under_of sep k (Some h) l u = less_upto_less sep k h l u

module _ {K V : Type 0} (cmp : K → K → Ordering) (o : IsTotalOrder cmp) where
  -- both sides of a cut lie within their bounds
  pub record Sides (from upto : Option K) (sep : K) (n : ℕ) (ps : List (K × V)) : Type 0 where
    pub within : IsWithin cmp from upto sep
    pub under : IsUnder cmp upto sep
    pub lower : AllKeys (IsWithin cmp from (Some sep)) (take n ps)
    pub upper : AllKeys (IsWithin cmp (Some sep) upto) (drop n ps)

  pub sides_at : (from upto : Option K) (sep : K) (m : ℕ) (ps : List (K × V)) → IsAscending cmp ps → AllKeys (IsWithin cmp from upto) ps → key_at ps m ≡ Some sep → IsUnder cmp upto sep → Sides from upto sep (suc m) ps
  sides_at from upto sep m ps up all here under =
      let parts = cut_at cmp o ps m sep up here in
      let overs = all_map (IsWithin cmp from upto) (IsOver cmp from) (λ k w. w.0) ps all in
      let uptos = all_map (IsWithin cmp from upto) (IsUpTo cmp upto) (λ k w. w.1) ps all in
      record {
        within = all_at cmp o (IsWithin cmp from upto) ps m sep all here;
        under = under;
        lower = all_both (IsOver cmp from) (IsUpTo cmp (Some sep)) (take (suc m) ps) (all_take (IsOver cmp from) (suc m) ps overs) parts.0;
        upper = all_both (IsOver cmp (Some sep)) (IsUpTo cmp upto) (drop (suc m) ps) parts.1 (all_drop (IsUpTo cmp upto) (suc m) ps uptos);
      }

  pub sides : (key : K) (from upto : Option K) (ps : List (K × V)) (split_point : SplitPoint K) → IsAscending cmp ps → AllKeys (IsWithin cmp from upto) ps → IsWithin cmp from upto key → IsSplitPoint cmp key ps split_point → Sides from upto split_point.separator (cond split_point.whole (length ps) 8) ps
  sides key from upto ps split_point up all here c =
      (elim split_point.whole as (λ b. split_point.whole ≡ b → Sides from upto split_point.separator (cond b (length ps) 8) ps) [
        | true ↦ λ b.
            let last : suc (length ps - 1) ≡ length ps = omega (arith, c.crowded) in
            subst (λ (n : ℕ). Sides from upto split_point.separator n ps) last (sides_at from upto split_point.separator (length ps - 1) ps up all (c.whole b) (under_of cmp o split_point.separator key upto (c.beyond b) here.1))
        | false ↦ λ b.
            let next = behind 8 ps (omega (arith, c.crowded)) in
            let first : key_at (drop 8 ps) 0 ≡ Some next.0 = key_at_drop 8 ps ∙ next.1 in
            let over : cmp split_point.separator next.0 ≡ Less = all_at cmp o (IsOver cmp (Some split_point.separator)) (drop 8 ps) 0 next.0 (cut_at cmp o ps 7 split_point.separator up (c.halves b)).1 first in
            let near : IsUpTo cmp upto next.0 = (all_at cmp o (IsWithin cmp from upto) ps 8 next.0 all next.1).1 in
            sides_at from upto split_point.separator 7 ps up all (c.halves b) (under_of cmp o split_point.separator next.0 upto over near)
      ]) refl
