-- A tree in which leaves lose pairs and nothing else changes.
use Rattle.std.proofs.Common.{◌≡◌, ◌≢◌, ◌≤◌, ◌⊎◌, inl, inr, ℕ, zero, suc, ◌+◌, ◌-◌, ◌==◌, Bool, true, false, cond, List, [], ◌∷◌, ◌++◌, length, Option, Some, None, refl, sym, ap, ◌∙◌, subst, arith}
use Rattle.std.specs.Option.{option_map}
use Rattle.std.specs.declared.cmp.Ordering.{Ordering}
use Rattle.std.specs.List.{filter}
use Rattle.std.proofs.lemmas.List.Elements.{filter-append}
use Rattle.std.proofs.lemmas.Bool.{eq-eqb}
use Rattle.std.proofs.lemmas.Bool.Decides.{eqb_tells}
use Rattle.slab.specs.Slab.{get, with_value, Updates}
use Rattle.slab.proofs.SlabLemmas.{Updates-with_value}
use Rattle.leaf_array.specs.Cells.{Cells}
use Rattle.leaf_array.specs.Pairs.{IsAscending}
use Rattle.tree_nodes.specs.declared.leaf.Leaf.{Leaf}
use Rattle.tree_nodes.specs.declared.arenas.Arenas.{Arenas}
use Rattle.tree_nodes.specs.Shape.{ArenaContent, AreBetween, AllKeys, IsWithin, joined_along, node_joined, sum_along, node_sum, joined_over, leaf_pairs, leaves_under, leaf_times, node_times, IsLeaf, IsTree, Stands}
use Rattle.tree_nodes.specs.Chain.{leaf_links, times, IsLinked}
use Rattle.tree_nodes.specs.Content.{content_of, pairs_of, leaves_of, IsSound}
use Rattle.tree_nodes.specs.Walk.{pairs_in_leaf, IsOwnLeaf}
use Rattle.tree_nodes.proofs.WayLemmas.{some_same}
use Rattle.tree_nodes.proofs.ChainLemmas.{linked_kept, times_append, first_times}
use Rattle.tree_nodes.proofs.LinkLemmas.{links_kept}
use Rattle.tree_nodes.proofs.RowLemmas.{joined_over_parted}
use Rattle.tree_nodes.proofs.WalkLemmas.{once, all_held, held_is, stands_of}
use Rattle.tree_nodes.proofs.ArenaLemmas.{all_filtered, middle_length, with_leaf}

module _ {K X : Type 0} (f g : ℕ → List X) (same : (n : ℕ) → f n ≡ g n) where
  joined_same : (es : List (K × ℕ)) (last : ℕ) → joined_along f es last ≡ joined_along g es last
  joined_same [] last = same last
  joined_same (e ∷ es) last = rw (same e.1, joined_same es last) refl

  node_same : (n : Option (Cells K ℕ × ℕ)) → node_joined f n ≡ node_joined g n
  node_same None = refl
  node_same (Some n) = joined_same n.0.pairs n.1

module _ {K : Type 0} (f g : ℕ → ℕ) (same : (n : ℕ) → f n ≡ g n) where
  summed_same : (es : List (K × ℕ)) (last : ℕ) → sum_along f es last ≡ sum_along g es last
  summed_same [] last = same last
  summed_same (e ∷ es) last = rw (same e.1, summed_same es last) refl

  sum_same : (n : Option (Cells K ℕ × ℕ)) → node_sum f n ≡ node_sum g n
  sum_same None = refl
  sum_same (Some n) = summed_same n.0.pairs n.1

-- the nodes are the same
module _ {K V : Type 0} (a b : ArenaContent K V) (nodes : (n : ℕ) → b.node n ≡ a.node n) where
  pub order_same : (height at : ℕ) → leaves_under b height at ≡ leaves_under a height at
  order_same zero at = refl
  order_same (suc height) at = ap (node_joined (leaves_under b height)) (nodes at) ∙ node_same (leaves_under b height) (leaves_under a height) (order_same height) (a.node at)

  pub leaves_same : (n height at : ℕ) → leaf_times b n height at ≡ leaf_times a n height at
  leaves_same n zero at = refl
  leaves_same n (suc height) at = ap (node_sum (leaf_times b n height)) (nodes at) ∙ sum_same (leaf_times b n height) (leaf_times a n height) (leaves_same n height) (a.node at)

  pub nodes_same : (n height at : ℕ) → node_times b n height at ≡ node_times a n height at
  nodes_same n zero at = refl
  nodes_same n (suc height) at =
      let below = ap (node_sum (node_times b n height)) (nodes at) ∙ sum_same (node_times b n height) (node_times a n height) (nodes_same n height) (a.node at) in
      ap (λ k. cond (at == n) 1 0 + k) below

  -- and the leaves have fewer pairs at most
  module _ (cmp : K → K → Ordering) (thin : (n : ℕ) (low high : Option K) (c : Cells K V) → a.leaf n ≡ Some c → IsLeaf cmp low high c → (d : Cells K V) × (b.leaf n ≡ Some d) × IsLeaf cmp low high d) where
    thin_along : (height : ℕ) → ((at : ℕ) (low high : Option K) → IsTree cmp a height at low high → IsTree cmp b height at low high) → (es : List (K × ℕ)) (last : ℕ) (low high : Option K) → AreBetween cmp (IsTree cmp a height) es last low high → AreBetween cmp (IsTree cmp b height) es last low high
    thin_along height each [] last low high t = each last low high t
    thin_along height each (e ∷ es) last low high t = (t.0, each e.1 low (Some e.0) t.1, thin_along height each es last (Some e.0) high t.2)

    thin_tree : (height at : ℕ) (low high : Option K) → IsTree cmp a height at low high → IsTree cmp b height at low high
    thin_tree zero at low high t = thin at low high t.0 t.1 t.2
    thin_tree (suc height) at low high t = (t.0, nodes at ∙ t.1, t.2, thin_along height (thin_tree height) t.0.0.pairs t.0.1 low high t.3)

    pub thin_stands : (height root : ℕ) → Stands cmp a height root → Stands cmp b height root
    thin_stands height root s = record {
      tree = thin_tree height root None None s.tree;
      leaf_once = λ n. omega (arith, leaves_same n height root, s.leaf_once n);
      node_once = λ n. omega (arith, nodes_same n height root, s.node_once n);
    }

module _ {X : Type 0} (f g : ℕ → List X) where
  -- numbers that don't stand in a list hold what they may
  pub joined_over_kept : (n : ℕ) (ns : List ℕ) → ((k : ℕ) → k ≢ n → g k ≡ f k) → times n ns ≡ 0 → joined_over g ns ≡ joined_over f ns
  joined_over_kept n [] same none = refl
  joined_over_kept n (m ∷ ns) same none =
      let apart : m ≢ n = λ e. (let one : ◌≡◌ {A = ℕ} (cond (m == n) 1 0) 1 = ap (λ b. cond b 1 0) (eq-eqb m n e) in omega (arith, one, none)) in
      rw (same m apart, joined_over_kept n ns same (omega (arith, none))) refl

filter_twice : {X : Type 0} (test : X → Bool) (xs : List X) → filter test (filter test xs) ≡ filter test xs
filter_twice test [] = refl
filter_twice test (x ∷ xs) =
    (elim (test x) as (λ b. test x ≡ b → filter test (cond b (x ∷ filter test xs) (filter test xs)) ≡ cond b (x ∷ filter test xs) (filter test xs)) [
      | true ↦ λ e. rw (e, filter_twice test xs) refl
      | false ↦ λ e. filter_twice test xs
    ]) refl

-- a leaf of sound arenas, what a test of keys leaves of it, and the leaves before and behind it
pub record IsThinned {K V : Type 0} (cmp : K → K → Ordering) (test : K → Bool) (a : Arenas K V) (n : ℕ) (l m : Leaf K V) : Type 0 where
  pub sound : IsSound cmp a
  pub own : IsOwnLeaf a (Some n)
  pub here : get a.leaves n ≡ Some l
  pub fore : List ℕ
  pub rear : List ℕ
  pub all : leaves_of a ≡ fore ++ n ∷ rear
  pub pairs : m.array.pairs ≡ filter (λ p. test p.0) l.array.pairs
  pub frozen : m.array.frozen ≡ l.array.frozen
  pub rising : IsAscending cmp m.array.pairs
  pub prev : m.prev ≡ l.prev
  pub next : m.next ≡ l.next

module _ {K V : Type 0} {cmp : K → K → Ordering} {test : K → Bool} {a : Arenas K V} {n : ℕ} {l m : Leaf K V} (t : IsThinned cmp test a n l m) where
  u : Updates a.leaves (with_value a.leaves n m) n (Some m)
  u = Updates-with_value a.leaves n m (rw t.here refl)

  abbrev array : Option (Leaf K V) → Option (Cells K V)
  array = option_map (λ (x : Leaf K V). x.array)

  pub thin_others : (len k : ℕ) → k ≢ n → pairs_in_leaf (with_leaf a n m len) k ≡ pairs_in_leaf a k
  thin_others len k d = ap (λ x. leaf_pairs (array x)) (u.others k d)

  pub thin_here : (len : ℕ) → pairs_in_leaf (with_leaf a n m len) n ≡ filter (λ p. test p.0) (pairs_in_leaf a n)
  thin_here len = ap (λ x. leaf_pairs (array x)) u.changed ∙ t.pairs ∙ sym (ap (filter (λ (p : K × V). test p.0)) (held_is a n l t.here))

  pub thin_order : (len : ℕ) → leaves_of (with_leaf a n m len) ≡ leaves_of a
  thin_order len = order_same (content_of a) (content_of (with_leaf a n m len)) (λ k. refl) a.height a.root

  thin_leaf : (len k : ℕ) (low high : Option K) (c : Cells K V) → (content_of a).leaf k ≡ Some c → IsLeaf cmp low high c → (d : Cells K V) × ((content_of (with_leaf a n m len)).leaf k ≡ Some d) × IsLeaf cmp low high d
  thin_leaf len k low high c there is = split (eqb_tells k n)
    where
      split : ((k == n) ≡ true × (k ≡ n)) ⊎ ((k == n) ≡ false × (k ≢ n)) → (d : Cells K V) × ((content_of (with_leaf a n m len)).leaf k ≡ Some d) × IsLeaf cmp low high d
      split (inr e) = (c, ap array (u.others k e.1) ∙ there, is)
      split (inl e) =
          let same : ◌≡◌ {A = Option (Cells K V)} (Some c) (Some l.array) = sym there ∙ ap (content_of a).leaf e.1 ∙ ap array t.here in
          let it : c ≡ l.array = some_same same in
          let was : IsLeaf cmp low high l.array = subst (IsLeaf cmp low high) it is in (
            m.array,
            ap (λ (j : ℕ). array (get (with_value a.leaves n m) j)) e.1 ∙ ap array u.changed,
            record { thawed = t.frozen ∙ was.thawed; rising = t.rising; within = subst (AllKeys (IsWithin cmp low high)) (sym t.pairs) (all_filtered (IsWithin cmp low high) test l.array.pairs was.within) },
          )

  counted : times n t.fore + suc (times n t.rear) ≤ 1
  counted =
      let most : times n (t.fore ++ n ∷ t.rear) ≤ 1 = subst (λ ks. times n ks ≤ 1) t.all (once cmp a t.sound t.own.0 n) in
      omega (arith, times_append n t.fore (n ∷ t.rear), first_times n t.rear, most)

  pub thin_fore : (len : ℕ) → joined_over (pairs_in_leaf (with_leaf a n m len)) t.fore ≡ joined_over (pairs_in_leaf a) t.fore
  thin_fore len = joined_over_kept (pairs_in_leaf a) (pairs_in_leaf (with_leaf a n m len)) n t.fore (thin_others len) (omega (arith, counted))

  thin_rear : (len : ℕ) → joined_over (pairs_in_leaf (with_leaf a n m len)) t.rear ≡ joined_over (pairs_in_leaf a) t.rear
  thin_rear len = joined_over_kept (pairs_in_leaf a) (pairs_in_leaf (with_leaf a n m len)) n t.rear (thin_others len) (omega (arith, counted))

  pub thin_pairs : (len : ℕ) → pairs_of (with_leaf a n m len) ≡ joined_over (pairs_in_leaf a) t.fore ++ (filter (λ p. test p.0) (pairs_in_leaf a n) ++ joined_over (pairs_in_leaf a) t.rear)
  thin_pairs len =
      all_held (with_leaf a n m len) ∙ joined_over_parted (pairs_in_leaf (with_leaf a n m len)) n (leaves_of (with_leaf a n m len)) t.fore t.rear (thin_order len ∙ t.all)
      ∙ rw (thin_fore len, thin_here len, thin_rear len) refl

  length_of : (len : ℕ) → length (pairs_of (with_leaf a n m len)) ≡ length (joined_over (pairs_in_leaf a) t.fore ++ (filter (λ p. test p.0) (pairs_in_leaf a n) ++ joined_over (pairs_in_leaf a) t.rear))
  length_of len = ap length (thin_pairs len)

  pub whole_pairs : pairs_of a ≡ joined_over (pairs_in_leaf a) t.fore ++ (pairs_in_leaf a n ++ joined_over (pairs_in_leaf a) t.rear)
  whole_pairs = all_held a ∙ joined_over_parted (pairs_in_leaf a) n (leaves_of a) t.fore t.rear t.all

  pub thin_same : (len : ℕ) → filter (λ p. test p.0) (pairs_of (with_leaf a n m len)) ≡ filter (λ p. test p.0) (pairs_of a)
  thin_same len =
      let q : K × V → Bool = λ p. test p.0 in
      ap (filter q) (thin_pairs len)
      ∙ filter-append q (joined_over (pairs_in_leaf a) t.fore) (filter q (pairs_in_leaf a n) ++ joined_over (pairs_in_leaf a) t.rear)
      ∙ ap (λ ps. filter q (joined_over (pairs_in_leaf a) t.fore) ++ ps) (filter-append q (filter q (pairs_in_leaf a n)) (joined_over (pairs_in_leaf a) t.rear) ∙ ap (λ ps. ps ++ filter q (joined_over (pairs_in_leaf a) t.rear)) (filter_twice q (pairs_in_leaf a n)) ∙ sym (filter-append q (pairs_in_leaf a n) (joined_over (pairs_in_leaf a) t.rear)))
      ∙ sym (filter-append q (joined_over (pairs_in_leaf a) t.fore) (pairs_in_leaf a n ++ joined_over (pairs_in_leaf a) t.rear))
      ∙ sym (ap (filter q) whole_pairs)

  pub thin_sound : (before after : ℕ) → before ≡ length l.array.pairs → after ≡ length m.array.pairs → IsSound cmp (with_leaf a n m (a.len - before + after))
  thin_sound before after b f =
      let len : ℕ = a.len - before + after in
      let held_new : filter (λ p. test p.0) (pairs_in_leaf a n) ≡ m.array.pairs = ap (filter (λ (p : K × V). test p.0)) (held_is a n l t.here) ∙ sym t.pairs in
      let counts = (middle_length (joined_over (pairs_in_leaf a) t.fore) (pairs_in_leaf a n) (filter (λ p. test p.0) (pairs_in_leaf a n)) (joined_over (pairs_in_leaf a) t.rear) a.len (t.sound.count ∙ ap length whole_pairs)).1 in
      let old_len : length (pairs_in_leaf a n) ≡ before = ap length (held_is a n l t.here) ∙ sym b in
      let new_len : length (filter (λ p. test p.0) (pairs_in_leaf a n)) ≡ after = ap length held_new ∙ sym f in
      record {
        stands = inr (t.own.0, thin_stands (content_of a) (content_of (with_leaf a n m len)) (λ k. refl) cmp (thin_leaf len) a.height a.root (stands_of cmp a t.sound t.own.0));
        linked = λ h. subst (λ ns. IsLinked (leaf_links (with_value a.leaves n m)) None ns None) (sym (thin_order len)) (linked_kept (leaf_links a.leaves) (leaf_links (with_value a.leaves n m)) None (leaves_of a) None (λ k d. links_kept a.leaves n l m t.here t.prev t.next k) (t.sound.linked h));
        count = omega (arith, counts, old_len, new_len, length_of len);
      }
