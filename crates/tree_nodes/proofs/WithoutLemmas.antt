-- A tree without a leaf that lies within a range of keys.
use Rattle.std.proofs.Common.{◌≡◌, ◌≢◌, ◌≤◌, ◌<◌, ◌⊎◌, inl, inr, ℕ, zero, suc, ◌+◌, ◌-◌, ◌==◌, Bool, true, false, cond, not, List, [], ◌∷◌, ◌++◌, length, Option, Some, None, refl, sym, ap, ◌∙◌, subst, arith}
use Rattle.std.specs.Option.{option_map}
use Rattle.std.specs.declared.cmp.Ordering.{Ordering}
use Rattle.std.specs.declared.cmp.Ordering.TheVariants.{Less, Equal, Greater}
use Rattle.std.specs.Ordering.{is_lt, is_le}
use Rattle.std.specs.Cmp.{IsTotalOrder, tied_itself}
use Rattle.std.specs.List.{filter}
use Rattle.std.specs.Map.{keys_of}
use Rattle.std.specs.declared.ops.Bound.{Bound}
use Rattle.std.specs.declared.ops.Bound.TheVariants.{Included, Excluded, Unbounded}
use Rattle.std.specs.BTreeMap.Range.{range_contains, is_from_start, is_past_end}
use Rattle.std.proofs.lemmas.List.{append_cancel_left, length-append}
use Rattle.std.proofs.lemmas.List.Elements.{filter-append}
use Rattle.std.proofs.lemmas.Map.Keys.{sorted_head, sorted_tail}
use Rattle.std.proofs.lemmas.Bool.Decides.{eqb_tells}
use Rattle.slab.specs.Slab.{get}
use Rattle.leaf_array.specs.Cells.{Cells}
use Rattle.leaf_array.specs.Pairs.{IsAscending}
use Rattle.tree_nodes.specs.declared.leaf.Leaf.{Leaf}
use Rattle.tree_nodes.specs.declared.arenas.Arenas.{Arenas}
use Rattle.tree_nodes.specs.SplitPoints.{key_at}
use Rattle.tree_nodes.specs.Shape.{AllKeys, joined_over, leaf_pairs}
use Rattle.tree_nodes.specs.Chain.{leaf_links, times, first_or, IsLinked}
use Rattle.tree_nodes.specs.Content.{content_of, pairs_of, leaves_of, leaf_on_way, IsSound}
use Rattle.tree_nodes.specs.Prune.{IsWithout}
use Rattle.tree_nodes.specs.Walk.{pairs_in_leaf, rest, IsOwnLeaf, IsPassed}
use Rattle.tree_nodes.proofs.ShapeLemmas.{all_weaken}
use Rattle.tree_nodes.proofs.LeafLemmas.{filter_none}
use Rattle.tree_nodes.proofs.WayLemmas.{some_same, Around, around, leaf_there}
use Rattle.tree_nodes.proofs.ChainLemmas.{times_append, first_times}
use Rattle.tree_nodes.proofs.RowLemmas.{parting, before_parted, joined_over_parted, linked_at}
use Rattle.tree_nodes.proofs.RisingLemmas.{to_keys}
use Rattle.tree_nodes.proofs.ThinLemmas.{joined_over_kept}
use Rattle.tree_nodes.proofs.WalkLemmas.{all_held, held_is, once, stands_of}
use Rattle.tree_nodes.proofs.RemovalLemmas.{past_trans, first_split}

module _ {K : Type 0} {cmp : K → K → Ordering} (o : IsTotalOrder cmp) where
  from_trans : (b : Bound K) (p k : K) → is_from_start cmp b p ≡ true → cmp p k ≡ Less → is_from_start cmp b k ≡ true
  from_trans (Included l) p k e h = le_of l p k (cmp l p) refl e h
    where
      le_of : (l p k : K) (r : Ordering) → cmp l p ≡ r → is_le r ≡ true → cmp p k ≡ Less → is_le (cmp l k) ≡ true
      le_of l p k Less e t h = ap is_le (o.trans l p k e h)
      le_of l p k Equal e t h = ap is_le (o.congr l p k e ∙ h)
      le_of l p k Greater e t h = cc
  from_trans (Excluded l) p k e h = lt_of l p k (cmp l p) refl e h
    where
      lt_of : (l p k : K) (r : Ordering) → cmp l p ≡ r → is_lt r ≡ true → cmp p k ≡ Less → is_lt (cmp l k) ≡ true
      lt_of l p k Less e t h = ap is_lt (o.trans l p k e h)
      lt_of l p k Equal e t h = cc
      lt_of l p k Greater e t h = cc
  from_trans Unbounded p k e h = refl

  -- a key below one that isn't past the end isn't past it
  not_past : (b : Bound K) (p k : K) → cmp p k ≡ Less → is_past_end cmp b k ≡ false → is_past_end cmp b p ≡ false
  not_past b p k h e =
      (elim (is_past_end cmp b p) as (λ q. is_past_end cmp b p ≡ q → q ≡ false) [
        | true ↦ λ w. let x : true ≡ false = sym (past_trans o b p k w h) ∙ e in cc
        | false ↦ λ w. refl
      ]) refl

module _ {K V : Type 0} {cmp : K → K → Ordering} (o : IsTotalOrder cmp) (lower upper : Bound K) where
  starts : (p : K × V) (ps : List (K × V)) → IsAscending cmp (p ∷ ps) → is_from_start cmp lower p.0 ≡ true → AllKeys (λ k. is_from_start cmp lower k ≡ true) (p ∷ ps)
  starts p ps up e = (e, all_weaken (λ k. cmp p.0 k ≡ Less) (λ k. is_from_start cmp lower k ≡ true) (λ k l. from_trans o lower p.0 k e l) ps (to_keys (λ k. cmp p.0 k ≡ Less) ps (sorted_head cmp p.0 (keys_of ps) up)))

  ends : (p : K × V) (ps : List (K × V)) (last : K) → IsAscending cmp (p ∷ ps) → key_at (p ∷ ps) (length ps) ≡ Some last → is_past_end cmp upper last ≡ false → AllKeys (λ k. is_past_end cmp upper k ≡ false) (p ∷ ps)
  ends p [] last up there e = (subst (λ (k : K). is_past_end cmp upper k ≡ false) (sym (some_same there)) e, tt)
  ends p (q ∷ ps) last up there e =
      let rest = ends q ps last (sorted_tail cmp p.0 (keys_of (q ∷ ps)) up) there e in
      let less = to_keys {V = V} (λ k. cmp p.0 k ≡ Less) (q ∷ ps) (sorted_head cmp p.0 (keys_of (q ∷ ps)) up) in
      (not_past o upper p.0 q.0 less.0 rest.0, rest)

  both : (ps : List (K × V)) → AllKeys (λ k. is_from_start cmp lower k ≡ true) ps → AllKeys (λ k. is_past_end cmp upper k ≡ false) ps → AllKeys (λ k. range_contains cmp lower upper k ≡ true) ps
  both [] a b = tt
  both (p ∷ ps) a b = (rw (a.0, b.0) refl, both ps a.1 b.1)

  -- where the first and the last key of a rising list lie within bounds, all do
  pub all_within : (ps : List (K × V)) (first last : K) → IsAscending cmp ps → key_at ps 0 ≡ Some first → key_at ps (length ps - 1) ≡ Some last → is_from_start cmp lower first ≡ true → is_past_end cmp upper last ≡ false → AllKeys (λ k. range_contains cmp lower upper k ≡ true) ps
  all_within [] first last up here there s e = tt
  all_within (p ∷ ps) first last up here there s e =
      let n : suc (length ps) - 1 ≡ length ps = omega arith in
      both (p ∷ ps) (starts p ps up (subst (λ (k : K). is_from_start cmp lower k ≡ true) (sym (some_same here)) s)) (ends p ps last up (subst (λ (m : ℕ). key_at (p ∷ ps) m ≡ Some last) n there) e)

module _ {K V : Type 0} (P : K → Type 0) where
  key_held : (ps : List (K × V)) (first : K) → key_at ps 0 ≡ Some first → AllKeys P ps → P first
  key_held [] first h a = absurd (let e : None ≡ Some first = h in cc)
  key_held (p ∷ ps) first h a = subst P (some_same h) a.0

  pub part_of : (xs ys : List (K × V)) → AllKeys P (xs ++ ys) → AllKeys P xs × AllKeys P ys
  part_of [] ys a = (tt, a)
  part_of (x ∷ xs) ys a = let r = part_of xs ys a.1 in ((a.0, r.0), r.1)

  -- what holds of all that leaves hold, holds of each
  pub leaf_keys : (f : ℕ → List (K × V)) (n : ℕ) (ns : List ℕ) → times n ns ≢ 0 → AllKeys P (joined_over f ns) → AllKeys P (f n)
  leaf_keys f n ns h a =
      let p = parting n ns h in
      (part_of (f n) (joined_over f p.rear) (part_of (joined_over f p.fore) (f n ++ joined_over f p.rear) (subst (AllKeys P) (joined_over_parted f n ns p.fore p.rear p.all) a)).1).0

-- what stands behind the leaf on the way to a key
module _ {K V : Type 0} (cmp : K → K → Ordering) (o : IsTotalOrder cmp) (key : K) (a : Arenas K V) (s : IsSound cmp a) (planted : a.height ≢ 0) where
  abbrev way_leaf : (c : Cells K V) × ((content_of a).leaf (leaf_on_way cmp key a) ≡ Some c)
  way_leaf = leaf_there cmp o key (content_of a) a.height a.root (stands_of cmp a s planted).tree

  abbrev pub way_around : Around cmp o key (content_of a) a.height a.root (leaf_on_way cmp key a) way_leaf.0
  way_around = around cmp o key (content_of a) a.height a.root way_leaf.0 (stands_of cmp a s planted).tree way_leaf.1

  pub rights_hold : joined_over (pairs_in_leaf a) way_around.rights ≡ way_around.back
  rights_hold =
      let r = way_around in
      let at = leaf_on_way cmp key a in
      let all : joined_over (pairs_in_leaf a) r.lefts ++ (pairs_in_leaf a at ++ joined_over (pairs_in_leaf a) r.rights) ≡ joined_over (pairs_in_leaf a) r.lefts ++ (way_leaf.0.pairs ++ r.back) = sym (joined_over_parted (pairs_in_leaf a) at (leaves_of a) r.lefts r.rights r.order) ∙ sym (all_held a) ∙ r.pairs ∙ ap (λ ps. ps ++ (way_leaf.0.pairs ++ r.back)) r.fore in
      let same : pairs_in_leaf a at ≡ way_leaf.0.pairs = ap leaf_pairs way_leaf.1 in
      append_cancel_left way_leaf.0.pairs (joined_over (pairs_in_leaf a) r.rights) r.back (ap (λ ps. ps ++ joined_over (pairs_in_leaf a) r.rights) (sym same) ∙ append_cancel_left (joined_over (pairs_in_leaf a) r.lefts) (pairs_in_leaf a at ++ joined_over (pairs_in_leaf a) r.rights) (way_leaf.0.pairs ++ r.back) all)

module _ {K V : Type 0} (cmp : K → K → Ordering) (o : IsTotalOrder cmp) (a : Arenas K V) (s : IsSound cmp a) (n : ℕ) (own : IsOwnLeaf a (Some n)) (l : Leaf K V) (here : get a.leaves n ≡ Some l) (key : K) (there : key_at l.array.pairs 0 ≡ Some key) where
  apart : cmp key key ≢ Less
  apart e = let x : Less ≡ Equal = sym e ∙ tied_itself o key in cc

  in_leaf : (P : K → Type 0) → AllKeys P (pairs_in_leaf a n) → P key
  in_leaf P all = key_held P l.array.pairs key there (subst (AllKeys P) (held_is a n l here) all)

  -- the way to the first key of a leaf leads to that leaf
  pub own_way : n ≡ leaf_on_way cmp key a
  own_way =
      let r = way_around cmp o key a s own.0 in
      let at = leaf_on_way cmp key a in
      let behind = rights_hold cmp o key a s own.0 in
      let counted : times n r.lefts + (cond (at == n) 1 0 + times n r.rights) ≢ 0 = λ z. own.1 (ap (times n) r.order ∙ times_append n r.lefts (at ∷ r.rights) ∙ z) in
      let left : times n r.lefts ≡ 0 = by_zero (times n r.lefts) (λ d. apart (in_leaf (λ k. cmp k key ≡ Less) (leaf_keys (λ k. cmp k key ≡ Less) (pairs_in_leaf a) n r.lefts d (subst (AllKeys (λ k. cmp k key ≡ Less)) r.fore r.before)))) in
      let right : times n r.rights ≡ 0 = by_zero (times n r.rights) (λ d. apart (in_leaf (λ k. cmp key k ≡ Less) (leaf_keys (λ k. cmp key k ≡ Less) (pairs_in_leaf a) n r.rights d (subst (AllKeys (λ k. cmp key k ≡ Less)) (sym behind) r.behind)))) in
      split r.lefts r.rights at left right counted (eqb_tells at n)
    where
      by_zero : (m : ℕ) → (m ≢ 0 → ⊥) → m ≡ 0
      by_zero zero h = refl
      by_zero (suc m) h = absurd (h (λ e. omega (arith, e)))

      split : (lefts rights : List ℕ) (at : ℕ) → times n lefts ≡ 0 → times n rights ≡ 0 → times n lefts + (cond (at == n) 1 0 + times n rights) ≢ 0 → ((at == n) ≡ true × (at ≡ n)) ⊎ ((at == n) ≡ false × (at ≢ n)) → n ≡ at
      split lefts rights at x y c (inl e) = sym e.1
      split lefts rights at x y c (inr e) = absurd (c (let z : ◌≡◌ {A = ℕ} (cond (at == n) 1 0) 0 = ap (λ b. cond b 1 0) e.0 in omega (arith, x, y, z)))

one_each : (ns : List ℕ) → length (joined_over (λ (k : ℕ). k ∷ []) ns) ≡ length ns
one_each [] = refl
one_each (n ∷ ns) = omega (arith, one_each ns)

rest_parted : (ns : List ℕ) (n : ℕ) (xs ys : List ℕ) → ns ≡ xs ++ n ∷ ys → times n ns ≤ 1 → rest ns (Some n) ≡ suc (suc (length ys))
rest_parted ns n xs ys e h =
    let before = before_parted (λ k. k ∷ []) n ns xs ys e h in
    let all : length ns ≡ length xs + suc (length ys) = ap length e ∙ simp length-append refl in
    omega (arith, before, one_each xs, all)

-- a list has one beginning before a number that stands in it once
same_fore : (n : ℕ) (xs ys us vs : List ℕ) → xs ++ n ∷ ys ≡ us ++ n ∷ vs → times n (xs ++ n ∷ ys) ≤ 1 → xs ≡ us
same_fore n [] ys [] vs e h = refl
same_fore n [] ys (u ∷ us) vs e h =
    let tail : ys ≡ us ++ n ∷ vs = cc in
    let t : times n ys ≡ times n (us ++ n ∷ vs) = ap (times n) tail in
    absurd (omega (arith, h, first_times n ys, t, times_append n us (n ∷ vs), first_times n vs))
same_fore n (x ∷ xs) ys [] vs e h =
    let head : x ≡ n = cc in
    absurd (omega (arith, subst (λ (k : ℕ). times n (k ∷ (xs ++ n ∷ ys)) ≤ 1) head h, first_times n (xs ++ n ∷ ys), times_append n xs (n ∷ ys), first_times n ys))
same_fore n (x ∷ xs) ys (u ∷ us) vs e h =
    let head : x ≡ u = cc in
    let tail : xs ++ n ∷ ys ≡ us ++ n ∷ vs = cc in
    rw (head, same_fore n xs ys us vs tail (omega (arith, h))) refl

module _ {K V : Type 0} (cmp : K → K → Ordering) (lower upper : Bound K) (a b : Arenas K V) (s : IsSound cmp a) (n : ℕ) (own : IsOwnLeaf a (Some n)) (without : IsWithout n a b) where
  abbrev test : K → Bool
  test k = not (range_contains cmp lower upper k)

  alone : times n (leaves_of a) ≤ 1
  alone = once cmp a s own.0 n

  parted : times n (without.fore ++ n ∷ without.rear) ≤ 1
  parted = subst (λ ns. times n ns ≤ 1) without.order_was alone

  -- a filter of what lies outside leaves the same
  pub without_same : AllKeys (λ k. range_contains cmp lower upper k ≡ true) (pairs_in_leaf a n) → filter (λ p. test p.0) (pairs_of b) ≡ filter (λ p. test p.0) (pairs_of a)
  without_same within =
      let none : filter (λ p. test p.0) (pairs_in_leaf a n) ≡ [] = filter_none test (pairs_in_leaf a n) (all_weaken (λ k. range_contains cmp lower upper k ≡ true) (λ k. test k ≡ false) (λ k h. ap not h) (pairs_in_leaf a n) within) in
      let f : List (K × V) → List (K × V) = filter (λ p. test p.0) in
      ap f without.now ∙ filter-append (λ p. test p.0) without.front without.back
      ∙ sym (ap f without.was ∙ filter-append (λ p. test p.0) without.front (pairs_in_leaf a n ++ without.back) ∙ ap (λ ps. f without.front ++ ps) (filter-append (λ p. test p.0) (pairs_in_leaf a n) without.back ∙ ap (λ ps. ps ++ f without.back) none))

  module _ (next : Option ℕ) (next_is : next ≡ first_or None without.rear) where
    pub without_own : b.height ≢ 0 → IsOwnLeaf b next
    without_own h = subst (IsOwnLeaf b) (sym next_is) (first_own without.rear without.order)
      where
        first_own : (rear : List ℕ) → leaves_of b ≡ without.fore ++ rear → IsOwnLeaf b (first_or None rear)
        first_own [] e = tt
        first_own (r ∷ rs) e = (h, λ z. let all : times r (without.fore ++ r ∷ rs) ≡ 0 = ap (times r) (sym e) ∙ z in omega (arith, all, times_append r without.fore (r ∷ rs), first_times r rs))

    pub without_fewer : IsSound cmp b → b.height ≢ 0 → rest (leaves_of b) next < rest (leaves_of a) (Some n)
    without_fewer t h =
        let old = rest_parted (leaves_of a) n without.fore without.rear without.order_was alone in
        subst (λ (x : Option ℕ). rest (leaves_of b) x < rest (leaves_of a) (Some n)) (sym next_is) (left without.rear without.order old)
      where
        left : (rear : List ℕ) → leaves_of b ≡ without.fore ++ rear → rest (leaves_of a) (Some n) ≡ suc (suc (length rear)) → rest (leaves_of b) (first_or None rear) < rest (leaves_of a) (Some n)
        left [] e old = omega (arith, old)
        left (r ∷ rs) e old = omega (arith, old, rest_parted (leaves_of b) r without.fore rs e (once cmp b t h r))

    pub without_passed : (P : K → Type 0) → IsPassed P a (Some n) → IsPassed P b next
    without_passed P passed =
        let r = first_split n passed.rear passed.first in
        let was : leaves_of a ≡ passed.fore ++ n ∷ r.0 = passed.all ∙ ap (λ ks. passed.fore ++ ks) r.1 in
        let same : without.fore ≡ passed.fore = same_fore n without.fore without.rear passed.fore r.0 (sym without.order_was ∙ was) parted in
        let out : times n without.fore ≡ 0 = omega (arith, parted, times_append n without.fore (n ∷ without.rear), first_times n without.rear) in
        record {
          fore = without.fore;
          rear = without.rear;
          all = without.order;
          first = next_is;
          keys = subst (AllKeys P) (sym (joined_over_kept (pairs_in_leaf a) (pairs_in_leaf b) n without.fore without.kept out)) (subst (λ ns. AllKeys P (joined_over (pairs_in_leaf a) ns)) (sym same) passed.keys);
        }

-- what a leaf names behind itself is the first of those behind it
pub next_of : {K V : Type 0} (cmp : K → K → Ordering) (a b : Arenas K V) (s : IsSound cmp a) (n : ℕ) (own : IsOwnLeaf a (Some n)) (without : IsWithout n a b) (l : Leaf K V) → get a.leaves n ≡ Some l → l.next ≡ first_or None without.rear
next_of {K} {V} cmp a b s n own without l here =
    let at = linked_at (leaf_links a.leaves) None None n without.fore without.rear (subst (λ ns. IsLinked (leaf_links a.leaves) None ns None) without.order_was (s.linked own.0)) in
    let e : ◌≡◌ {A = Option (Option ℕ × Option ℕ)} (Some (l.prev, l.next)) _ = sym (ap (option_map (λ (x : Leaf K V). (x.prev, x.next))) here) ∙ at in
    ap (λ (x : Option ℕ × Option ℕ). x.1) (some_same e)

pub not_true : (b : Bool) → not b ≡ true → b ≡ false
not_true true h = cc
not_true false h = refl
