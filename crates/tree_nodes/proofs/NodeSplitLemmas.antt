-- A full node that is split in two.
use Rattle.std.proofs.Common.{◌≡◌, ◌≢◌, ◌≤◌, ◌⊎◌, inl, inr, ℕ, zero, suc, ◌+◌, ◌==◌, true, false, cond, List, ◌∷◌, ◌++◌, Some, None, refl, sym, ap, ◌∙◌, subst, arith}
use Rattle.std.specs.declared.cmp.Ordering.{Ordering}
use Rattle.std.specs.Ordering.{is_lt}
use Rattle.std.specs.Cmp.{IsTotalOrder}
use Rattle.std.specs.Map.{lookup}
use Rattle.std.specs.BTreeMap.{insert_entry, is_at}
use Rattle.std.proofs.lemmas.Bool.Decides.{eqb_tells}
use Rattle.leaf_array.specs.Cells.{Cells}
use Rattle.tree_nodes.specs.Shape.{ArenaContent, child_for, child_in, way, joined_along, sum_along, node_joined, node_sum, pairs_under, leaves_under, leaf_times, node_times, IsNode, IsTree, Stands}
use Rattle.tree_nodes.proofs.ShapeLemmas.{self_once, Agrees, AreSame, kept, kept_along}
use Rattle.tree_nodes.proofs.FocusLemmas.{over}
use Rattle.tree_nodes.proofs.WayLemmas.{tree_below}
use Rattle.tree_nodes.proofs.HalfLemmas.{Halves, halves, under, along_halves, sum_halves, child_halves}
use Rattle.tree_nodes.proofs.GrowLemmas.{at_most_one, child_counted, way_kept}
use Rattle.tree_nodes.proofs.SplitLemmas.{parent, kids, last, child, around_parent, around_child, IsSplit, IsDivided, divided, leaf_total, node_total, none_node, at_parent, order_total}

-- a way in two parts
pub way_more : {K V : Type 0} (cmp : K → K → Ordering) (a : ArenaContent K V) (key : K) (steps more at : ℕ) → way cmp a key (over steps more) at ≡ way cmp a key more (way cmp a key steps at)
way_more cmp a key zero more at = refl
way_more cmp a key (suc steps) more at = way_more cmp a key steps more (child_in cmp key at (a.node at))

module _ {K V : Type 0} (cmp : K → K → Ordering) (o : IsTotalOrder cmp) (a : ArenaContent K V) (key : K) (left steps root : ℕ) (s : Stands cmp a (over steps (suc (suc left))) root) where
  abbrev p : ℕ
  p = parent cmp o a key (suc left) steps root s

  abbrev c : ℕ
  c = child cmp o a key (suc left) steps root s

  -- the node that is split
  abbrev pub full : Cells K ℕ × ℕ
  full = (around_child cmp o a key (suc left) steps root s).tree.0

  pub child_apart : c ≢ p
  child_apart e =
      let one = at_parent cmp o a key (suc left) steps root s p refl in
      let two = self_once c (node_sum (node_times a c left) (a.node c)) in
      let here : node_times a p (suc left) c ≡ node_times a c (suc left) c = ap (λ k. node_times a k (suc left) c) (sym e) in
      omega (arith, one, two, here, node_total cmp o a key (suc left) steps root s p, s.node_once p)

  -- the number one step further down
  pub child_is : way cmp a key (over steps 1) root ≡ c
  child_is = way_more cmp a key steps 1 root ∙ ap (child_in cmp key p) (around_parent cmp o a key (suc left) steps root s).tree.1

  module _ (b : ArenaContent K V) (fresh : ℕ) (lower upper node : Cells K ℕ) (sep : K) (mid : ℕ) (y : K × ℕ) (ys : List (K × ℕ)) where
    -- the separator between the halves isn't among those above
    pub not_above : full.0.pairs ≡ lower.pairs ++ (sep, mid) ∷ (y ∷ ys) → lookup (is_at (cmp sep)) (kids cmp o a key (suc left) steps root s) ≡ None
    not_above parts =
        let t = around_child cmp o a key (suc left) steps root s in
        let h = halves cmp o (IsTree cmp a left) lower.pairs (sep, mid) (y ∷ ys) full.1 t.from t.upto (rw parts at t.tree.3) in
        t.absent sep h.within (under cmp o (IsTree cmp a left) sep y ys full.1 t.upto h.upper)

    -- what the two halves and the node above hold
    pub record IsNodeSplit : Type 0 where
      pub parts : full.0.pairs ≡ lower.pairs ++ (sep, mid) ∷ (y ∷ ys)
      pub rest : upper.pairs ≡ y ∷ ys
      pub absent : a.node fresh ≡ None
      pub at_fresh : b.node fresh ≡ Some (lower, mid)
      pub at_child : b.node c ≡ Some (upper, full.1)
      pub at_parent : b.node p ≡ Some (node, last cmp o a key (suc left) steps root s)
      pub others : (n : ℕ) → n ≢ fresh → n ≢ c → n ≢ p → b.node n ≡ a.node n
      pub leaves : (n : ℕ) → b.leaf n ≡ a.leaf n
      pub lower_node : IsNode lower
      pub upper_node : IsNode upper
      pub separators : node.pairs ≡ insert_entry cmp (kids cmp o a key (suc left) steps root s) sep fresh
      pub is_node : IsNode node

    module _ (t : IsNodeSplit) where
      abbrev here : a.node c ≡ Some full
      here = (around_child cmp o a key (suc left) steps root s).tree.1

      below_leaf : (n : ℕ) → leaf_times a n (suc left) c ≡ sum_along (leaf_times a n left) full.0.pairs full.1
      below_leaf n = ap (node_sum (leaf_times a n left)) here

      below_node : (n : ℕ) → node_sum (node_times a n left) (a.node c) ≡ sum_along (node_times a n left) full.0.pairs full.1
      below_node n = ap (node_sum (node_times a n left)) here

      total : (n : ℕ) → node_times a n (over steps (suc (suc left))) root ≡ (around_parent cmp o a key (suc left) steps root s).nodes n + (cond (p == n) 1 0 + ((around_child cmp o a key (suc left) steps root s).nodes n + node_times a n (suc left) c))
      total n = node_total cmp o a key (suc left) steps root s n

      fresh_zero : node_times a fresh (suc left) c ≡ 0
      fresh_zero = omega (arith, total fresh, none_node cmp o a key (suc left) steps root s fresh t.absent)

      parent_zero : node_times a p (suc left) c ≡ 0
      parent_zero = let one = at_parent cmp o a key (suc left) steps root s p refl in omega (arith, one, total p, s.node_once p)

      child_once : (n : ℕ) → n ≡ c → sum_along (node_times a n left) full.0.pairs full.1 ≡ 0
      child_once n e =
          let one = self_once c 0 in
          let all : node_times a c (suc left) c ≤ 1 = omega (arith, total c, s.node_once c) in
          subst (λ (k : ℕ). sum_along (node_times a k left) full.0.pairs full.1 ≡ 0) (sym e) (omega (arith, one, all, below_node c))

      -- below the node nothing changes
      agrees : Agrees a b (λ n. sum_along (leaf_times a n left) full.0.pairs full.1) (λ n. sum_along (node_times a n left) full.0.pairs full.1)
      agrees = record {
        leaf = λ n d. t.leaves n;
        node = λ n d. t.others n
            (λ e. d (subst (λ (k : ℕ). sum_along (node_times a k left) full.0.pairs full.1 ≡ 0) (sym e) (omega (arith, fresh_zero, below_node fresh))))
            (λ e. d (child_once n e))
            (λ e. d (subst (λ (k : ℕ). sum_along (node_times a k left) full.0.pairs full.1 ≡ 0) (sym e) (omega (arith, parent_zero, below_node p))));
      }

      same : AreSame cmp a b left full.0.pairs full.1 (around_child cmp o a key (suc left) steps root s).from (around_child cmp o a key (suc left) steps root s).upto
      same = kept_along cmp a b left (kept cmp a b left) full.0.pairs full.1 _ _ (around_child cmp o a key (suc left) steps root s).tree.3 agrees

      two : Halves cmp o (IsTree cmp b left) lower.pairs (sep, mid) (y ∷ ys) full.1 (around_child cmp o a key (suc left) steps root s).from (around_child cmp o a key (suc left) steps root s).upto
      two = halves cmp o (IsTree cmp b left) lower.pairs (sep, mid) (y ∷ ys) full.1 _ _ (rw t.parts at same.between)

      leaf_sums : (n : ℕ) → leaf_times b n (suc left) fresh + leaf_times b n (suc left) c ≡ leaf_times a n (suc left) c
      leaf_sums n =
          rw (t.at_fresh, t.at_child, t.rest) (sym (sum_halves (leaf_times b n left) lower.pairs (sep, mid) (y ∷ ys) full.1) ∙ ap (λ es. sum_along (leaf_times b n left) es full.1) (sym t.parts) ∙ same.leaves n ∙ sym (below_leaf n))

      node_sums : (n : ℕ) → node_times b n (suc left) fresh + node_times b n (suc left) c ≡ cond (fresh == n) 1 0 + node_times a n (suc left) c
      node_sums n =
          let f : node_sum (node_times b n left) (b.node fresh) ≡ sum_along (node_times b n left) lower.pairs mid = ap (node_sum (node_times b n left)) t.at_fresh in
          let g : node_sum (node_times b n left) (b.node c) ≡ sum_along (node_times b n left) (y ∷ ys) full.1 = ap (node_sum (node_times b n left)) t.at_child ∙ ap (λ es. sum_along (node_times b n left) es full.1) t.rest in
          let h : sum_along (node_times b n left) lower.pairs mid + sum_along (node_times b n left) (y ∷ ys) full.1 ≡ sum_along (node_times a n left) full.0.pairs full.1 =
          sym (sum_halves (node_times b n left) lower.pairs (sep, mid) (y ∷ ys) full.1) ∙ ap (λ es. sum_along (node_times b n left) es full.1) (sym t.parts) ∙ same.nodes n in
          omega (arith, f, g, h, below_node n)

      split : IsSplit cmp o a key (suc left) steps root s b sep fresh node
      split = record {
        within = two.within;
        under = under cmp o (IsTree cmp b left) sep y ys full.1 _ two.upper;
        lower = ((lower, mid), t.at_fresh, t.lower_node, two.lower);
        upper = ((upper, full.1), t.at_child, t.upper_node, rw t.rest two.upper);
        pairs =
            rw (t.at_fresh, t.at_child, t.rest) (sym (along_halves (pairs_under b left) lower.pairs (sep, mid) (y ∷ ys) full.1) ∙ ap (λ es. joined_along (pairs_under b left) es full.1) (sym t.parts) ∙ same.pairs ∙ sym (ap (node_joined (pairs_under a left)) here));
        leaf_same = λ n z e. t.leaves n;
        node_same = λ n z q e. t.others n (λ f. e (ap a.node f ∙ t.absent)) (λ f. self_once c 0 (subst (λ (k : ℕ). cond (c == k) 1 0 + 0 ≡ 0) f (omega (arith, z)))) q;
        leaf_moved = λ n e. leaf_sums n;
        node_moved = λ n e. moved n e (eqb_tells fresh n);
        leaf_most = λ n. omega (arith, leaf_sums n, leaf_total cmp o a key (suc left) steps root s n, s.leaf_once n);
        node_most = λ n e. most n (eqb_tells fresh n);
        there = t.at_parent;
        separators = t.separators;
        is_node = t.is_node;
      }
        where
          moved : (n : ℕ) → a.node n ≢ None → ((fresh == n) ≡ true × (fresh ≡ n)) ⊎ ((fresh == n) ≡ false × (fresh ≢ n)) → node_times b n (suc left) fresh + node_times b n (suc left) c ≡ node_times a n (suc left) c
          moved n e (inl f) = absurd (e (ap a.node (sym f.1) ∙ t.absent))
          moved n e (inr f) = node_sums n ∙ rw f.0 (omega arith)

          most : (n : ℕ) → ((fresh == n) ≡ true × (fresh ≡ n)) ⊎ ((fresh == n) ≡ false × (fresh ≢ n)) → node_times b n (suc left) fresh + node_times b n (suc left) c ≤ 1
          most n (inl f) =
              let one : cond (fresh == n) 1 0 ≤ 1 = at_most_one (fresh == n) in
              omega (arith, node_sums n, one, subst (λ (k : ℕ). node_times a k (suc left) c ≡ 0) f.1 fresh_zero)
          most n (inr f) =
              let none : ◌≡◌ {A = ℕ} (cond (fresh == n) 1 0) 0 = ap (λ b. cond b 1 0) f.0 in
              omega (arith, node_sums n, none, total n, s.node_once n)

      pub node_divided : IsDivided cmp o a key (suc left) steps root s b sep fresh node
      node_divided = divided cmp o a key (suc left) steps root s b sep fresh node split

      leaves_joined : leaves_under b (suc left) fresh ++ leaves_under b (suc left) c ≡ leaves_under a (suc left) c
      leaves_joined = rw (t.at_fresh, t.at_child, t.rest) (sym (along_halves (leaves_under b left) lower.pairs (sep, mid) (y ∷ ys) full.1) ∙ ap (λ es. joined_along (leaves_under b left) es full.1) (sym t.parts) ∙ same.order ∙ sym (ap (node_joined (leaves_under a left)) here))

      -- the leaves are as they were
      pub same_order : leaves_under b (over steps (suc (suc left))) root ≡ leaves_under a (over steps (suc (suc left))) root
      same_order =
          let f = around_parent cmp o a key (suc left) steps root s in
          let g = around_child cmp o a key (suc left) steps root s in
          node_divided.order ∙ ap (λ ns. (f.lefts ++ g.lefts) ++ ns ++ (g.rights ++ f.rights)) leaves_joined ∙ sym (order_total cmp o a key (suc left) steps root s)

      next_way : way cmp b key (over steps 1) root ≡ cond (is_lt (cmp sep key)) c fresh
      next_way = way_more cmp b key steps 1 root ∙ ap (λ n. child_in cmp key n (b.node n)) node_divided.same_way ∙ ap (child_in cmp key p) t.at_parent ∙ node_divided.next

      -- the way goes on to one of the two
      pub by_side : (P : ℕ → Type 0) → P c → P fresh → P (way cmp b key (over steps 1) root)
      by_side P x y =
          rw next_way (elim (is_lt (cmp sep key)) as (λ q. P (cond q c fresh)) [
            | true ↦ x
            | false ↦ y
          ])

      -- below the node the way is as it was
      abbrev under_child : ℕ
      under_child = child_for cmp key full.0.pairs full.1

      same_below : way cmp b key left under_child ≡ way cmp a key left under_child
      same_below =
          let below = tree_below cmp key (IsTree cmp a left) full.0.pairs full.1 _ _ (around_child cmp o a key (suc left) steps root s).tree.3 in
          way_kept cmp a b left under_child below.0 below.1 below.2 (record {
            leaf = λ n d. t.leaves n;
            node = λ n d. agrees.node n (omega (arith, d, child_counted cmp a b (λ at. node_times a n left at) key full.0.pairs full.1));
          }) key

      sides : way cmp b key (suc left) (cond (is_lt (cmp sep key)) c fresh) ≡ way cmp b key left (cond (is_lt (cmp sep key)) (child_for cmp key (y ∷ ys) full.1) (child_for cmp key lower.pairs mid))
      sides =
          elim (is_lt (cmp sep key)) as (λ q. way cmp b key (suc left) (cond q c fresh) ≡ way cmp b key left (cond q (child_for cmp key (y ∷ ys) full.1) (child_for cmp key lower.pairs mid))) [
            | true ↦ ap (λ m. way cmp b key left (child_in cmp key c m)) t.at_child ∙ ap (λ es. way cmp b key left (child_for cmp key es full.1)) t.rest
            | false ↦ ap (λ m. way cmp b key left (child_in cmp key fresh m)) t.at_fresh
          ]

      joined : cond (is_lt (cmp sep key)) (child_for cmp key (y ∷ ys) full.1) (child_for cmp key lower.pairs mid) ≡ under_child
      joined =
          sym (ap (λ es. child_for cmp key es full.1) t.parts ∙ child_halves cmp o (IsTree cmp a left) key lower.pairs (sep, mid) (y ∷ ys) full.1 _ _ (rw t.parts at (around_child cmp o a key (suc left) steps root s).tree.3))

      pub leaf_way : way cmp b key (over steps (suc (suc left))) root ≡ way cmp a key (over steps (suc (suc left))) root
      leaf_way =
          way_more cmp b key steps (suc (suc left)) root
          ∙ ap (λ n. way cmp b key (suc left) (child_in cmp key n (b.node n))) node_divided.same_way
          ∙ ap (λ m. way cmp b key (suc left) (child_in cmp key p m)) t.at_parent
          ∙ ap (way cmp b key (suc left)) node_divided.next
          ∙ sides ∙ ap (way cmp b key left) joined ∙ same_below
          ∙ sym (ap (λ m. way cmp a key left (child_in cmp key c m)) here)
          ∙ sym (ap (λ m. way cmp a key (suc left) (child_in cmp key p m)) (around_parent cmp o a key (suc left) steps root s).tree.1)
          ∙ sym (way_more cmp a key steps (suc (suc left)) root)
