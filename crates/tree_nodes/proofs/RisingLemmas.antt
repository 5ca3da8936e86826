-- The keys of a tree rise.
use Rattle.std.proofs.Common.{◌≡◌, ◌≤◌, ◌<◌, ℕ, zero, suc, false, List, [], ◌∷◌, ◌++◌, Option, Some, None, sym, ap, ◌∙◌, subst, arith}
use Rattle.std.specs.Prelude.{slice_get}
use Rattle.std.specs.declared.cmp.Ordering.{Ordering}
use Rattle.std.specs.declared.cmp.Ordering.TheVariants.{Less}
use Rattle.std.specs.Ordering.{is_lt, is_gt}
use Rattle.std.specs.Cmp.{IsTotalOrder, tied_itself}
use Rattle.std.specs.List.{AllByRecursion}
use Rattle.std.specs.List.Sorted.{IsStrictlySortedBy}
use Rattle.std.specs.Map.{keys_of}
use Rattle.std.proofs.lemmas.Map.Keys.{sorted_head, sorted_tail}
use Rattle.leaf_array.specs.Pairs.{IsAscending}
use Rattle.leaf_array.specs.Cells.{Cells}
use Rattle.tree_nodes.specs.Shape.{ArenaContent, AreBetween, AllKeys, IsWithin, joined_along, node_joined, leaf_pairs, pairs_under, IsTree}
use Rattle.tree_nodes.proofs.ShapeLemmas.{turned, upto_less, all_append, all_weaken, bounded, bounded_along}
use Rattle.tree_nodes.proofs.WayLemmas.{some_same}

module _ {K V : Type 0} (P : K → Type 0) where
  pub to_keys : (ps : List (K × V)) → AllByRecursion P (keys_of ps) → AllKeys P ps
  to_keys [] a = tt
  to_keys (p ∷ ps) a = (a.0, to_keys ps a.1)

  pub from_keys : (ps : List (K × V)) → AllKeys P ps → AllByRecursion P (keys_of ps)
  from_keys [] a = tt
  from_keys (p ∷ ps) a = (a.0, from_keys ps a.1)

  pub key_in : (ps : List (K × V)) (n : ℕ) (p : K × V) → AllByRecursion P (keys_of ps) → slice_get ps n ≡ Some p → P p.0
  key_in [] n p a h = absurd (let e : None ≡ Some p = h in cc)
  key_in (q ∷ ps) zero p a h = subst (λ (x : K × V). P x.0) (some_same h) a.0
  key_in (q ∷ ps) (suc n) p a h = key_in ps n p a.1 h

module _ {K V : Type 0} {cmp : K → K → Ordering} (o : IsTotalOrder cmp) where
  pub rising_cons : (p : K × V) (ps : List (K × V)) → AllByRecursion (λ y. cmp p.0 y ≡ Less) (keys_of ps) → IsAscending cmp ps → IsAscending cmp (p ∷ ps)
  unfolding IsStrictlySortedBy
  rising_cons p ps a b = (a, b)

  -- a list up to a key, and one above it
  rising_append : (m : K) (xs ys : List (K × V)) → IsAscending cmp xs → IsAscending cmp ys → AllKeys (λ k. is_gt (cmp k m) ≡ false) xs → AllKeys (λ k. cmp m k ≡ Less) ys → IsAscending cmp (xs ++ ys)
  rising_append m [] ys a b c d = b
  rising_append m (x ∷ xs) ys a b c d =
      rising_cons x (xs ++ ys)
      (from_keys (λ y. cmp x.0 y ≡ Less) (xs ++ ys) (all_append (λ y. cmp x.0 y ≡ Less) xs ys
      (to_keys (λ y. cmp x.0 y ≡ Less) xs (sorted_head cmp x.0 (keys_of xs) a))
      (all_weaken (λ k. cmp m k ≡ Less) (λ y. cmp x.0 y ≡ Less) (λ k l. upto_less o x.0 m k c.0 l) ys d)))
      (rising_append m xs ys (sorted_tail cmp x.0 (keys_of xs) a) b c.1 d)

  rising_along : (a : ArenaContent K V) (height : ℕ) → ((at : ℕ) (low high : Option K) → IsTree cmp a height at low high → IsAscending cmp (pairs_under a height at)) → (es : List (K × ℕ)) (last : ℕ) (low high : Option K) → AreBetween cmp (IsTree cmp a height) es last low high → IsAscending cmp (joined_along (pairs_under a height) es last)
  rising_along a height each [] last low high t = each last low high t
  rising_along a height each (e ∷ es) last low high t =
      rising_append e.0 (pairs_under a height e.1) (joined_along (pairs_under a height) es last)
      (each e.1 low (Some e.0) t.1)
      (rising_along a height each es last (Some e.0) high t.2)
      (all_weaken (IsWithin cmp low (Some e.0)) (λ k. is_gt (cmp k e.0) ≡ false) (λ k w. w.1) _ (bounded o a height e.1 low (Some e.0) t.1))
      (all_weaken (IsWithin cmp (Some e.0) high) (λ k. cmp e.0 k ≡ Less) (λ k w. w.0) _ (bounded_along o a (pairs_under a height) (IsTree cmp a height) (bounded o a height) es last (Some e.0) high t.2))

  -- the pairs of a tree are strictly ascending by key
  pub rising_under : (a : ArenaContent K V) (height at : ℕ) (low high : Option K) → IsTree cmp a height at low high → IsAscending cmp (pairs_under a height at)
  rising_under a zero at low high t = subst (λ (x : Option (Cells K V)). IsAscending cmp (leaf_pairs x)) (sym t.1) t.2.rising
  rising_under a (suc height) at low high t = subst (λ (x : Option (Cells K ℕ × ℕ)). IsAscending cmp (node_joined (pairs_under a height) x)) (sym t.1) (rising_along a height (rising_under a height) t.0.0.pairs t.0.1 low high t.3)

  -- the order of two pairs is that of their places
  pub earlier : (ps : List (K × V)) (m n : ℕ) (p q : K × V) → IsAscending cmp ps → slice_get ps m ≡ Some p → slice_get ps n ≡ Some q → m < n → cmp p.0 q.0 ≡ Less
  earlier [] m n p q up a b h = absurd (let e : None ≡ Some p = a in cc)
  earlier (r ∷ ps) m zero p q up a b h = absurd (omega (arith, h))
  earlier (r ∷ ps) zero (suc n) p q up a b h = subst (λ (x : K × V). cmp x.0 q.0 ≡ Less) (some_same a) (key_in (λ y. cmp r.0 y ≡ Less) ps n q (sorted_head cmp r.0 (keys_of ps) up) b)
  earlier (r ∷ ps) (suc m) (suc n) p q up a b h = earlier ps m n p q (sorted_tail cmp r.0 (keys_of ps) up) a b (omega (arith, h))

  pub not_earlier : (ps : List (K × V)) (m n : ℕ) (p q : K × V) → IsAscending cmp ps → slice_get ps m ≡ Some p → slice_get ps n ≡ Some q → n ≤ m → is_lt (cmp p.0 q.0) ≡ false
  not_earlier [] m n p q up a b h = absurd (let e : None ≡ Some p = a in cc)
  not_earlier (r ∷ ps) zero (suc n) p q up a b h = absurd (omega (arith, h))
  not_earlier (r ∷ ps) zero zero p q up a b h =
      let same : p ≡ q = some_same (sym a ∙ b) in
      ap (λ (x : K × V). is_lt (cmp p.0 x.0)) (sym same) ∙ ap is_lt (tied_itself o p.0)
  not_earlier (r ∷ ps) (suc m) zero p q up a b h =
      let l : cmp q.0 p.0 ≡ Less = subst (λ (x : K × V). cmp x.0 p.0 ≡ Less) (some_same b) (key_in (λ y. cmp r.0 y ≡ Less) ps m p (sorted_head cmp r.0 (keys_of ps) up) a) in
      ap is_lt (turned o q.0 p.0 l)
  not_earlier (r ∷ ps) (suc m) (suc n) p q up a b h = not_earlier ps m n p q (sorted_tail cmp r.0 (keys_of ps) up) a b (omega (arith, h))
