-- Lists of children and of pairs, in two parts.
use Rattle.std.proofs.Common.{◌≡◌, ℕ, zero, suc, ◌+◌, true, false, cond, List, [], ◌∷◌, ◌++◌, take, drop, Option, Some, None, refl, sym, ap, ◌∙◌, subst, arith, append_assoc}
use Rattle.std.specs.declared.cmp.Ordering.{Ordering}
use Rattle.std.specs.declared.cmp.Ordering.TheVariants.{Less, Equal, Greater}
use Rattle.std.specs.Ordering.{is_gt, is_lt}
use Rattle.std.specs.Cmp.{IsTotalOrder, tied_itself}
use Rattle.std.specs.Map.{keys_of}
use Rattle.std.proofs.lemmas.Map.Keys.{sorted_tail}
use Rattle.leaf_array.specs.Pairs.{IsAscending}
use Rattle.tree_nodes.specs.Shape.{IsOver, IsUpTo, IsWithin, AreBetween, AllKeys, child_for, joined_along, sum_along}
use Rattle.tree_nodes.specs.SplitPoints.{key_at}
use Rattle.tree_nodes.proofs.ShapeLemmas.{not_passed, upto_less, less_upto, turned}
use Rattle.tree_nodes.proofs.LeafLemmas.{over_head}
use Rattle.tree_nodes.proofs.FocusLemmas.{IsUnder}
use Rattle.tree_nodes.proofs.WayLemmas.{some_same}

module _ {K : Type 0} (cmp : K → K → Ordering) (o : IsTotalOrder cmp) (P : ℕ → Option K → Option K → Type 0) where
  -- children on both sides of a separator
  pub record Halves (xs : List (K × ℕ)) (e : K × ℕ) (ys : List (K × ℕ)) (last : ℕ) (low high : Option K) : Type 0 where
    pub within : IsWithin cmp low high e.0
    pub lower : AreBetween cmp P xs e.1 low (Some e.0)
    pub upper : AreBetween cmp P ys last (Some e.0) high

  pub halves : (xs : List (K × ℕ)) (e : K × ℕ) (ys : List (K × ℕ)) (last : ℕ) (low high : Option K) → AreBetween cmp P (xs ++ e ∷ ys) last low high → Halves xs e ys last low high
  halves [] e ys last low high t = record { within = t.0; lower = t.1; upper = t.2 }
  halves (x ∷ xs) e ys last low high t =
      let h = halves xs e ys last (Some x.0) high t.2 in
      record {
        within = (over low x.0 e.0 t.0.0 h.within.0, h.within.1);
        lower = ((t.0.0, less_upto o x.0 e.0 h.within.0), t.1, h.lower);
        upper = h.upper;
      }
    where
      over : (low : Option K) (m k : K) → IsOver cmp low m → cmp m k ≡ Less → IsOver cmp low k
      over None m k a b = tt
      over (Some l) m k a b = o.trans l m k a b

  -- with children behind it a separator is below the bound
  pub under : (e : K) (y : K × ℕ) (ys : List (K × ℕ)) (last : ℕ) (high : Option K) → AreBetween cmp P (y ∷ ys) last (Some e) high → IsUnder cmp high e
  under e y ys last None t = tt
  under e y ys last (Some h) t = below (cmp y.0 h) refl t.0.1
    where
      below : (r : Ordering) → cmp y.0 h ≡ r → is_gt r ≡ false → cmp e h ≡ Less
      below Less q g = o.trans e y.0 h t.0.0 q
      below Equal q g = let r : cmp h e ≡ Greater = sym (o.congr y.0 h e q) ∙ turned o e y.0 t.0.0 in rw r at (o.antisymm e h)
      below Greater q g = cc

pub along_halves : {K X : Type 0} (f : ℕ → List X) (xs : List (K × ℕ)) (e : K × ℕ) (ys : List (K × ℕ)) (last : ℕ) → joined_along f (xs ++ e ∷ ys) last ≡ joined_along f xs e.1 ++ joined_along f ys last
along_halves f [] e ys last = refl
along_halves f (x ∷ xs) e ys last = rw (along_halves f xs e ys last) (simp append_assoc)

pub sum_halves : {K : Type 0} (f : ℕ → ℕ) (xs : List (K × ℕ)) (e : K × ℕ) (ys : List (K × ℕ)) (last : ℕ) → sum_along f (xs ++ e ∷ ys) last ≡ sum_along f xs e.1 + sum_along f ys last
sum_halves f [] e ys last = refl
sum_halves f (x ∷ xs) e ys last = omega (arith, sum_halves f xs e ys last)

module _ {K : Type 0} (cmp : K → K → Ordering) (o : IsTotalOrder cmp) (P : ℕ → Option K → Option K → Type 0) (key : K) where
  -- the way goes on in one of the two halves
  pub child_halves : (xs : List (K × ℕ)) (e : K × ℕ) (ys : List (K × ℕ)) (last : ℕ) (low high : Option K) → AreBetween cmp P (xs ++ e ∷ ys) last low high
      → child_for cmp key (xs ++ e ∷ ys) last ≡ cond (is_lt (cmp e.0 key)) (child_for cmp key ys last) (child_for cmp key xs e.1)
  child_halves [] e ys last low high t = refl
  child_halves (x ∷ xs) e ys last low high t =
      (elim (is_lt (cmp x.0 key)) as (λ b. is_lt (cmp x.0 key) ≡ b
      → cond b (child_for cmp key (xs ++ e ∷ ys) last) x.1 ≡ cond (is_lt (cmp e.0 key)) (child_for cmp key ys last) (cond b (child_for cmp key xs e.1) x.1)) [
        | true ↦ λ b. child_halves xs e ys last (Some x.0) high t.2
        | false ↦ λ b.
            let near : cmp key e.0 ≡ Less = upto_less o key x.0 e.0 (not_passed o x.0 key b) (halves cmp o P xs e ys last (Some x.0) high t.2).within.0 in
            let not_past : is_lt (cmp e.0 key) ≡ false = ap is_lt (turned o key e.0 near) in
            rw not_past refl
      ]) refl

-- ---- pairs

module _ {K V : Type 0} (cmp : K → K → Ordering) (o : IsTotalOrder cmp) where
  pub all_at : (P : K → Type 0) (ps : List (K × V)) (n : ℕ) (k : K) → AllKeys P ps → key_at ps n ≡ Some k → P k
  all_at P [] n k a h = absurd (let e : None ≡ Some k = h in cc)
  all_at P (p ∷ ps) zero k a h = let e : p.0 ≡ k = some_same h in subst P e a.0
  all_at P (p ∷ ps) (suc n) k a h = all_at P ps n k a.1 h

  -- the keys up to that of the pair at a place, and those behind it
  pub cut_at : (ps : List (K × V)) (n : ℕ) (sep : K) → IsAscending cmp ps → key_at ps n ≡ Some sep → AllKeys (IsUpTo cmp (Some sep)) (take (suc n) ps) × AllKeys (IsOver cmp (Some sep)) (drop (suc n) ps)
  cut_at [] n sep up h = absurd (let e : None ≡ Some sep = h in cc)
  cut_at (p ∷ ps) zero sep up h =
      subst (λ k. ((is_gt (cmp p.0 k) ≡ false) × Unit {0}) × AllKeys (IsOver cmp (Some k)) ps) (some_same h) ((ap is_gt (tied_itself o p.0), tt), over_head cmp o p.0 p ps up)
  cut_at (p ∷ ps) (suc n) sep up h =
      let rest = cut_at ps n sep (sorted_tail cmp p.0 (keys_of ps) up) h in
      ((less_upto o p.0 sep (all_at (λ k. cmp p.0 k ≡ Less) ps n sep (over_head cmp o sep p ps up) h), rest.0), rest.1)
