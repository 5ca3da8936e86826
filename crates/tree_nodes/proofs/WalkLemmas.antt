-- Places in the leaves of a sound tree.
use Rattle.std.proofs.Common.{◌≡◌, ◌≢◌, ◌≤◌, ◌<◌, ◌⊎◌, inl, inr, ℕ, zero, suc, ◌+◌, Bool, List, [], ◌∷◌, ◌++◌, length, Option, Some, None, refl, sym, ap, ◌∙◌, subst, arith}
use Rattle.std.specs.Prelude.{IfSome, IfNone}
use Rattle.std.specs.Option.{option_map}
use Rattle.std.specs.declared.cmp.Ordering.{Ordering}
use Rattle.std.specs.Cmp.{IsTotalOrder}
use Rattle.std.proofs.lemmas.List.{length-append}
use Rattle.slab.specs.Slab.{get}
use Rattle.leaf_array.specs.Cells.{Cells}
use Rattle.tree_nodes.specs.declared.leaf.Leaf.{Leaf}
use Rattle.tree_nodes.specs.declared.arenas.Arenas.{Arenas}
use Rattle.tree_nodes.specs.Shape.{ArenaContent, AreBetween, joined_along, node_joined, first_child, joined_over, way, leaf_pairs, leaves_under, IsTree, Stands}
use Rattle.tree_nodes.specs.Chain.{leaf_links, times, first_or}
use Rattle.tree_nodes.specs.Content.{content_of, pairs_of, leaves_of, HasNoTree, IsSound}
use Rattle.tree_nodes.specs.Bounds.{before_start}
use Rattle.tree_nodes.specs.Walk.{pairs_before, rest, pairs_in_leaf, starts_at, ends_at, IsOwnLeaf}
use Rattle.tree_nodes.proofs.ShapeLemmas.{held_under}
use Rattle.tree_nodes.proofs.ChainLemmas.{times_counted, times_append, first_times}
use Rattle.tree_nodes.proofs.RowLemmas.{Own, starts, ends, reach, neighbours, parting, joined_over_parted, before_parted, linked_there, last_or, last_joined, last_own}
use Rattle.tree_nodes.proofs.WayLemmas.{some_same, around}
use Rattle.tree_nodes.proofs.NodeLemmas.{leaf_content}
use Rattle.tree_nodes.proofs.InsertionPointLemmas.{bound_at, bound_middle}

module _ {K V : Type 0} (cmp : K → K → Ordering) (a : Arenas K V) (s : IsSound cmp a) where
  pub stands_of : a.height ≢ 0 → Stands cmp (content_of a) a.height a.root
  stands_of h = split s.stands
    where
      split : HasNoTree a ⊎ (a.height ≢ 0) × Stands cmp (content_of a) a.height a.root → Stands cmp (content_of a) a.height a.root
      split (inl bare) = absurd (h bare.flat)
      split (inr stands) = stands.1

  pub once : a.height ≢ 0 → (n : ℕ) → times n (leaves_of a) ≤ 1
  once h n = omega (arith, times_counted (content_of a) n a.height a.root, (stands_of h).leaf_once n)

pub all_held : {K V : Type 0} (a : Arenas K V) → pairs_of a ≡ joined_over (pairs_in_leaf a) (leaves_of a)
all_held a = held_under (content_of a) a.height a.root

-- what a leaf of the tree holds
pub held_is : {K V : Type 0} (a : Arenas K V) (n : ℕ) (l : Leaf K V) → get a.leaves n ≡ Some l → pairs_in_leaf a n ≡ l.array.pairs
held_is a n l here = ap (λ (x : Option (Leaf _ _)). leaf_pairs (option_map (λ l. l.array) x)) here

-- what lies around a leaf of the tree
pub record LeafAround {K V : Type 0} (a : Arenas K V) (n : ℕ) (l : Leaf K V) : Type 0 where
  pub next_own : IsOwnLeaf a l.next
  pub next_starts : starts_at a l.next ≡ starts_at a (Some n) + length l.array.pairs
  pub next_rest : rest (leaves_of a) l.next < rest (leaves_of a) (Some n)
  pub prev_own : IsOwnLeaf a l.prev
  pub prev_ends : ends_at a l.prev ≡ starts_at a (Some n)
  pub prev_reach : reach (leaves_of a) l.prev < reach (leaves_of a) (Some n)

module _ {K V : Type 0} (cmp : K → K → Ordering) (a : Arenas K V) (s : IsSound cmp a) where
  -- a number of the tree is that of a leaf
  pub own_there : (n : ℕ) → IsOwnLeaf a (Some n) → get a.leaves n ≢ None
  own_there n own e =
      let l = linked_there (leaf_links a.leaves) (leaves_of a) n (s.linked own.0) own.1 in
      let x : None ≡ Some l.0 = ap (option_map (λ (l : Leaf K V). (l.prev, l.next))) (sym e) ∙ l.1 in
      cc

  pub leaf_around : (n : ℕ) (l : Leaf K V) → IsOwnLeaf a (Some n) → get a.leaves n ≡ Some l → LeafAround a n l
  leaf_around n l own here =
      let r = neighbours (pairs_in_leaf a) (leaf_links a.leaves) (leaves_of a) (s.linked own.0) (once cmp a s own.0) n l.prev l.next own.1 (ap (option_map (λ (l : Leaf K V). (l.prev, l.next))) here) in
      let same = held_is a n l here in
      record {
        next_own = owned l.next r.next_own;
        next_starts = started l.next ∙ r.next_starts ∙ ap (λ (ps : List (K × V)). pairs_before (pairs_in_leaf a) n (leaves_of a) + length ps) same;
        next_rest = r.next_rest;
        prev_own = owned l.prev r.prev_own;
        prev_ends = ended l.prev ∙ r.prev_ends;
        prev_reach = r.prev_reach;
      }
    where
      owned : (x : Option ℕ) → Own (pairs_in_leaf a) (leaves_of a) x → IsOwnLeaf a x
      owned None w = tt
      owned (Some m) w = (own.0, w)

      started : (x : Option ℕ) → starts_at a x ≡ starts (pairs_in_leaf a) (leaves_of a) x
      started None = ap length (all_held a)
      started (Some m) = refl

      ended : (x : Option ℕ) → ends_at a x ≡ ends (pairs_in_leaf a) (leaves_of a) x
      ended None = refl
      ended (Some m) = refl

module _ {K V : Type 0} (cmp : K → K → Ordering) (o : IsTotalOrder cmp) (key : K) (a : Arenas K V) (s : IsSound cmp a) where
  -- the leaf on the way to a key, and the place in it before a bound at the key
  pub way_own : (h : a.height ≢ 0) (n : ℕ) (l : Leaf K V) → n ≡ way cmp (content_of a) key a.height a.root → get a.leaves n ≡ Some l → IsOwnLeaf a (Some n)
  way_own h n l on here =
      let r = around cmp o key (content_of a) a.height a.root l.array (stands_of cmp a s h).tree (ap (content_of a).leaf (sym on) ∙ leaf_content cmp o key a n (Some l) here) in
      let order : leaves_of a ≡ r.lefts ++ n ∷ r.rights = r.order ∙ ap (λ k. r.lefts ++ k ∷ r.rights) (sym on) in
      (h, λ z. let all : times n (r.lefts ++ n ∷ r.rights) ≡ 0 = subst (λ ks. times n ks ≡ 0) order z in omega (arith, times_append n r.lefts (n ∷ r.rights), first_times n r.rights, all))

  pub way_place : (h : a.height ≢ 0) (n : ℕ) (l : Leaf K V) → n ≡ way cmp (content_of a) key a.height a.root → get a.leaves n ≡ Some l → (beyond : Bool) → pairs_before (pairs_in_leaf a) n (leaves_of a) + before_start cmp (bound_at key beyond) l.array.pairs ≡ before_start cmp (bound_at key beyond) (pairs_of a)
  way_place h n l on here beyond =
      let r = around cmp o key (content_of a) a.height a.root l.array (stands_of cmp a s h).tree (ap (content_of a).leaf (sym on) ∙ leaf_content cmp o key a n (Some l) here) in
      let order : leaves_of a ≡ r.lefts ++ n ∷ r.rights = r.order ∙ ap (λ k. r.lefts ++ k ∷ r.rights) (sym on) in
      let before : pairs_before (pairs_in_leaf a) n (leaves_of a) ≡ length r.front = before_parted (pairs_in_leaf a) n (leaves_of a) r.lefts r.rights order (once cmp a s h n) ∙ ap length (sym r.fore) in
      let all = ap (before_start cmp (bound_at key beyond)) r.pairs ∙ bound_middle cmp o key beyond r.front l.array.pairs r.back r.before r.behind in
      omega (arith, before, all)

-- the first and the last leaf of a tree are those of its first and its last child
module _ {K V : Type 0} (cmp : K → K → Ordering) (a : ArenaContent K V) where
  some_along : (f : ℕ → List ℕ) (P : ℕ → Option K → Option K → Type 0) → ((at : ℕ) (low high : Option K) → P at low high → (m : ℕ) × (ms : List ℕ) × (f at ≡ m ∷ ms))
      → (es : List (K × ℕ)) (last : ℕ) (low high : Option K) → AreBetween cmp P es last low high → (m : ℕ) × (ms : List ℕ) × (joined_along f es last ≡ m ∷ ms)
  some_along f P each [] last low high t = each last low high t
  some_along f P each (e ∷ es) last low high t = let r = each e.1 low (Some e.0) t.1 in (r.0, r.1 ++ joined_along f es last, ap (λ ms. ms ++ joined_along f es last) r.2)

  some_leaf : (height at : ℕ) (low high : Option K) → IsTree cmp a height at low high → (m : ℕ) × (ms : List ℕ) × (leaves_under a height at ≡ m ∷ ms)
  some_leaf zero at low high t = (at, [], refl)
  some_leaf (suc height) at low high t =
      let r = some_along (leaves_under a height) (IsTree cmp a height) (some_leaf height) t.0.0.pairs t.0.1 low high t.3 in
      (r.0, r.1, ap (node_joined (leaves_under a height)) t.1 ∙ r.2)

  -- a child whose leaves begin, or end, those of its node
  pub record IsEdge (edge : List ℕ → Option ℕ) (height at child : ℕ) : Type 0 where
    pub low : Option K
    pub high : Option K
    pub tree : IsTree cmp a height child low high
    pub same : edge (leaves_under a height child) ≡ edge (leaves_under a (suc height) at)

  first_along : (height : ℕ) (es : List (K × ℕ)) (last : ℕ) (low high : Option K) → AreBetween cmp (IsTree cmp a height) es last low high → (l : Option K) × (u : Option K) × IsTree cmp a height (first_child es last) l u × (first_or None (leaves_under a height (first_child es last)) ≡ first_or None (joined_along (leaves_under a height) es last))
  first_along height [] last low high t = (low, high, t, refl)
  first_along height (e ∷ es) last low high t = let r = some_leaf height e.1 low (Some e.0) t.1 in (low, Some e.0, t.1, rw r.2 refl)

  last_along : (height : ℕ) (es : List (K × ℕ)) (last : ℕ) (low high : Option K) → AreBetween cmp (IsTree cmp a height) es last low high → (l : Option K) × (u : Option K) × IsTree cmp a height last l u × (last_or None (leaves_under a height last) ≡ last_or None (joined_along (leaves_under a height) es last))
  last_along height [] last low high t = (low, high, t, refl)
  last_along height (e ∷ es) last low high t =
      let r = last_along height es last (Some e.0) high t.2 in
      let more = some_along (leaves_under a height) (IsTree cmp a height) (some_leaf height) es last (Some e.0) high t.2 in
      (r.0, r.1, r.2, r.3 ∙ ap (last_or None) more.2 ∙ sym (last_joined (leaves_under a height e.1) None more.0 more.1) ∙ sym (ap (λ ms. last_or None (leaves_under a height e.1 ++ ms)) more.2))

  module _ (height at : ℕ) (n : Cells K ℕ × ℕ) (low high : Option K) (t : IsTree cmp a (suc height) at low high) (here : a.node at ≡ Some n) where
    between : AreBetween cmp (IsTree cmp a height) n.0.pairs n.1 low high
    between =
        let P : Cells K ℕ × ℕ → Type 0 = λ m. AreBetween cmp (IsTree cmp a height) m.0.pairs m.1 low high in
        subst P (some_same (sym t.1 ∙ here)) t.3

    pub first_step : IsEdge (first_or None) height at (first_child n.0.pairs n.1)
    first_step =
        let r = first_along height n.0.pairs n.1 low high between in
        record { low = r.0; high = r.1; tree = r.2; same = r.3 ∙ sym (ap (λ m. first_or None (node_joined (leaves_under a height) m)) here) }

    pub last_step : IsEdge (last_or None) height at n.1
    last_step =
        let r = last_along height n.0.pairs n.1 low high between in
        record { low = r.0; high = r.1; tree = r.2; same = r.3 ∙ sym (ap (λ m. last_or None (node_joined (leaves_under a height) m)) here) }

-- a leaf of a sound tree has no more pairs than are counted
pub leaf_counted : {K V : Type 0} (cmp : K → K → Ordering) (a : Arenas K V) (s : IsSound cmp a) (n : ℕ) (own : IsOwnLeaf a (Some n)) (l : Leaf K V) → get a.leaves n ≡ Some l → length l.array.pairs ≤ a.len
leaf_counted cmp a s n own l here =
    let p = parting n (leaves_of a) own.1 in
    let whole : length (pairs_of a) ≡ length (joined_over (pairs_in_leaf a) p.fore) + (length (pairs_in_leaf a n) + length (joined_over (pairs_in_leaf a) p.rear)) = ap length (all_held a ∙ joined_over_parted (pairs_in_leaf a) n (leaves_of a) p.fore p.rear p.all) ∙ simp length-append in
    let same : length (pairs_in_leaf a n) ≡ length l.array.pairs = ap length (held_is a n l here) in
    omega (arith, s.count, whole, same)

-- where the first and the last leaf of a sound tree stand
module _ {K V : Type 0} (cmp : K → K → Ordering) (a : Arenas K V) (s : IsSound cmp a) (h : a.height ≢ 0) (n : ℕ) where
  pub last_is_own : last_or None (leaves_of a) ≡ Some n → IsOwnLeaf a (Some n) × (ends_at a (Some n) ≡ length (pairs_of a))
  last_is_own e = let r = last_own (pairs_in_leaf a) (leaves_of a) n (once cmp a s h n) e in ((h, r.0), r.1 ∙ sym (ap length (all_held a)))

-- where an answer is nothing, and where it is something
pub if_none : {X : Type 0} {P Q : Type 0} (r : Option X) → (P → Q) → IfNone r P → IfNone r Q
if_none None f p = f p
if_none (Some x) f p = tt

pub if_some : {X : Type 0} {P Q : X → Type 0} (r : Option X) → ((x : X) → P x → Q x) → IfSome r P → IfSome r Q
if_some None f p = tt
if_some (Some x) f p = f x p

pub if_both : {X : Type 0} {P Q R : X → Type 0} (r : Option X) → ((x : X) → P x → Q x → R x) → IfSome r P → IfSome r Q → IfSome r R
if_both None f p q = tt
if_both (Some x) f p q = f x p q
