-- A first node, and a new root.
use Rattle.std.proofs.Common.{◌≡◌, ◌≢◌, ◌≤◌, ◌⊎◌, inl, inr, ℕ, zero, suc, ◌+◌, ◌==◌, Bool, true, false, cond, Option, Some, None, List, [], ◌∷◌, refl, sym, ap, ◌∙◌, subst, arith}
use Rattle.std.specs.declared.cmp.Ordering.{Ordering}
use Rattle.std.specs.Ordering.{is_lt}
use Rattle.std.specs.List.Sorted.{IsStrictlySortedBy}
use Rattle.leaf_array.specs.Cells.{Cells, no_cells}
use Rattle.leaf_array.specs.Pairs.{IsAscending}
use Rattle.tree_nodes.specs.Shape.{ArenaContent, AllKeys, IsWithin, child_for, child_in, way, sum_along, node_sum, pairs_under, leaves_under, leaf_times, node_times, IsNode, IsTree, Stands}
use Rattle.std.proofs.lemmas.Bool.Decides.{eqb_tells}
use Rattle.tree_nodes.proofs.ShapeLemmas.{self_once, Agrees, kept}
use Rattle.tree_nodes.proofs.WayLemmas.{tree_below}
use Rattle.tree_nodes.proofs.SplitLemmas.{node_absent}

pub none_rising : {K : Type 0} (cmp : K → K → Ordering) → IsStrictlySortedBy cmp []
unfolding IsStrictlySortedBy
none_rising cmp = tt

pub at_most_one : (b : Bool) → cond b 1 0 ≤ 1
at_most_one true = omega arith
at_most_one false = omega arith

empty_node : {K : Type 0} → IsNode {K = K} (no_cells false)
empty_node = record { thawed = refl; living = refl; packed = refl }

module _ {K V : Type 0} (cmp : K → K → Ordering) (b : ArenaContent K V) (leaf root : ℕ) (c : Cells K V) (l : b.leaf leaf ≡ Some c) (n : b.node root ≡ Some (no_cells false, leaf)) where
  -- a node over one leaf
  pub one_node : c.frozen ≡ false → IsAscending cmp c.pairs → Stands cmp b 1 root
  one_node thawed rising = record {
    tree = ((no_cells false, leaf), n, empty_node, (c, l, record { thawed = thawed; rising = rising; within = unbounded c.pairs }));
    leaf_once = λ k. rw n (at_most_one (leaf == k));
    node_once = λ k. rw n (let m : cond (root == k) 1 0 ≤ 1 = at_most_one (root == k) in omega (arith, m));
  }
    where
      unbounded : (ps : List (K × V)) → AllKeys (IsWithin cmp None None) ps
      unbounded [] = tt
      unbounded (p ∷ ps) = ((tt, tt), unbounded ps)

  pub one_pairs : pairs_under b 1 root ≡ c.pairs
  one_pairs = rw n (rw l refl)

  pub one_order : leaves_under b 1 root ≡ leaf ∷ []
  one_order = rw n refl

module _ {K V : Type 0} (cmp : K → K → Ordering) (a b : ArenaContent K V) where
  -- a tree whose numbers hold the same has the same ways
  pub child_counted : (f : ℕ → ℕ) (key : K) (es : List (K × ℕ)) (last : ℕ) → f (child_for cmp key es last) ≤ sum_along f es last
  child_counted f key [] last = omega arith
  child_counted f key (e ∷ es) last =
      elim (is_lt (cmp e.0 key)) as (λ c. f (cond c (child_for cmp key es last) e.1) ≤ f e.1 + sum_along f es last) [
        | true ↦ omega (arith, child_counted f key es last)
        | false ↦ omega arith
      ]

  pub way_kept : (height at : ℕ) (low high : Option K) → IsTree cmp a height at low high → Agrees a b (λ n. leaf_times a n height at) (λ n. node_times a n height at) → (key : K) → way cmp b key height at ≡ way cmp a key height at
  way_kept zero at low high t s key = refl
  way_kept (suc height) at low high t s key =
      let n = t.0 in
      let next = child_for cmp key n.0.pairs n.1 in
      let below = tree_below cmp key (IsTree cmp a height) n.0.pairs n.1 low high t.3 in
      let here : b.node at ≡ a.node at = s.node at (self_once at (node_sum (node_times a at height) (a.node at))) in
      let leaves : (k : ℕ) → leaf_times a k (suc height) at ≡ sum_along (leaf_times a k height) n.0.pairs n.1 = λ k. ap (node_sum (leaf_times a k height)) t.1 in
      let nodes : (k : ℕ) → node_sum (node_times a k height) (a.node at) ≡ sum_along (node_times a k height) n.0.pairs n.1 = λ k. ap (node_sum (node_times a k height)) t.1 in
      let rest = way_kept height next below.0 below.1 below.2 (record {
        leaf = λ k d. s.leaf k (omega (arith, d, leaves k, child_counted (leaf_times a k height) key n.0.pairs n.1));
        node = λ k d. s.node k (omega (arith, d, nodes k, child_counted (node_times a k height) key n.0.pairs n.1));
      }) key in
      ap (λ m. way cmp b key height (child_in cmp key at m)) (here ∙ t.1) ∙ rest ∙ sym (ap (λ m. way cmp a key height (child_in cmp key at m)) t.1)

-- a new root over the present one
pub record IsRaised {K V : Type 0} (cmp : K → K → Ordering) (a b : ArenaContent K V) (height root fresh : ℕ) : Type 0 where
  pub stands : Stands cmp a height root
  pub absent : a.node fresh ≡ None
  pub there : b.node fresh ≡ Some (no_cells false, root)
  pub others : (n : ℕ) → n ≢ fresh → b.node n ≡ a.node n
  pub leaves : (n : ℕ) → b.leaf n ≡ a.leaf n

module _ {K V : Type 0} {cmp : K → K → Ordering} {a b : ArenaContent K V} {height root fresh : ℕ} (t : IsRaised cmp a b height root fresh) where
  fresh_unused : node_times a fresh height root ≡ 0
  fresh_unused = node_absent cmp a fresh t.absent height root None None t.stands.tree

  agrees : Agrees a b (λ n. leaf_times a n height root) (λ n. node_times a n height root)
  agrees = record { leaf = λ n d. t.leaves n; node = λ n d. t.others n (λ e. d (subst (λ (k : ℕ). node_times a k height root ≡ 0) (sym e) fresh_unused)) }

  pub raised : Stands cmp b (suc height) fresh
  raised =
      let k = kept cmp a b height root None None t.stands.tree agrees in
      record {
        tree = ((no_cells false, root), t.there, empty_node, k.tree);
        leaf_once = λ n. rw t.there (omega (arith, k.leaves n, t.stands.leaf_once n));
        node_once = λ n. rw t.there (once n (eqb_tells fresh n) (k.nodes n));
      }
    where
      once : (n : ℕ) → ((fresh == n) ≡ true × (fresh ≡ n)) ⊎ ((fresh == n) ≡ false × (fresh ≢ n)) → node_times b n height root ≡ node_times a n height root → cond (fresh == n) 1 0 + node_times b n height root ≤ 1
      once n (inl e) same = let none : node_times a n height root ≡ 0 = subst (λ (k : ℕ). node_times a k height root ≡ 0) e.1 fresh_unused in rw (e.0, same, none) (omega arith)
      once n (inr e) same = rw e.0 (omega (arith, same, t.stands.node_once n))

  pub raised_pairs : pairs_under b (suc height) fresh ≡ pairs_under a height root
  raised_pairs = rw t.there (kept cmp a b height root None None t.stands.tree agrees).pairs

  pub raised_order : leaves_under b (suc height) fresh ≡ leaves_under a height root
  raised_order = rw t.there (kept cmp a b height root None None t.stands.tree agrees).order

  pub raised_way : (key : K) → way cmp b key (suc height) fresh ≡ way cmp a key height root
  raised_way key = ap (λ m. way cmp b key height (child_in cmp key fresh m)) t.there ∙ way_kept cmp a b height root None None t.stands.tree agrees key
