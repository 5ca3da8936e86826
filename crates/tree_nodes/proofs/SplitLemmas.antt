-- A child that is split in two under a node with room.
use Rattle.std.proofs.Common.{◌≡◌, ◌≢◌, ◌≤◌, ℕ, zero, suc, ◌+◌, ◌==◌, true, false, cond, List, [], ◌∷◌, ◌++◌, Option, Some, None, inl, inr, ◌⊎◌, refl, sym, ap, ◌∙◌, arith, append_assoc}
use Rattle.std.specs.declared.cmp.Ordering.{Ordering}
use Rattle.std.specs.Ordering.{is_lt}
use Rattle.std.specs.Cmp.{IsTotalOrder}
use Rattle.std.specs.BTreeMap.{insert_entry}
use Rattle.std.proofs.lemmas.Bool.{eq-eqb}
use Rattle.std.proofs.lemmas.Bool.Decides.{eqb_tells}
use Rattle.leaf_array.specs.Cells.{Cells}
use Rattle.tree_nodes.specs.Shape.{ArenaContent, IsWithin, AreBetween, child_for, way, joined_along, sum_along, node_joined, node_sum, pairs_under, leaves_under, leaf_times, node_times, IsNode, IsTree, Stands}
use Rattle.tree_nodes.proofs.ShapeLemmas.{Agrees}
use Rattle.tree_nodes.proofs.FocusLemmas.{over, IsUnder, Turn, turn, Focus, focus, Parted}

module _ {K V : Type 0} (cmp : K → K → Ordering) (a : ArenaContent K V) where
  absent_along : (f : ℕ → ℕ) (P : ℕ → Option K → Option K → Type 0) → ((at : ℕ) (low high : Option K) → P at low high → f at ≡ 0) → (es : List (K × ℕ)) (last : ℕ) (low high : Option K) → AreBetween cmp P es last low high → sum_along f es last ≡ 0
  absent_along f P each [] last low high t = each last low high t
  absent_along f P each (e ∷ es) last low high t = omega (arith, each e.1 low (Some e.0) t.1, absent_along f P each es last (Some e.0) high t.2)

  -- a number that holds no leaf doesn't stand in a tree
  pub leaf_absent : (n : ℕ) → a.leaf n ≡ None → (height at : ℕ) (low high : Option K) → IsTree cmp a height at low high → leaf_times a n height at ≡ 0
  leaf_absent n none zero at low high t = split (eqb_tells at n)
    where
      split : ((at == n) ≡ true × (at ≡ n)) ⊎ ((at == n) ≡ false × (at ≢ n)) → leaf_times a n zero at ≡ 0
      split (inl s) = absurd (let e : None ≡ Some t.0 = sym none ∙ ap a.leaf (sym s.1) ∙ t.1 in cc)
      split (inr s) = ap (λ b. cond b 1 0) s.0
  leaf_absent n none (suc height) at low high t = ap (node_sum (leaf_times a n height)) t.1 ∙ absent_along (leaf_times a n height) (IsTree cmp a height) (leaf_absent n none height) t.0.0.pairs t.0.1 low high t.3

  -- nor one that holds no node
  pub node_absent : (n : ℕ) → a.node n ≡ None → (height at : ℕ) (low high : Option K) → IsTree cmp a height at low high → node_times a n height at ≡ 0
  node_absent n none zero at low high t = refl
  node_absent n none (suc height) at low high t =
      split (absent_along (node_times a n height) (IsTree cmp a height) (node_absent n none height) t.0.0.pairs t.0.1 low high t.3) (eqb_tells at n)
    where
      split : sum_along (node_times a n height) t.0.0.pairs t.0.1 ≡ 0 → ((at == n) ≡ true × (at ≡ n)) ⊎ ((at == n) ≡ false × (at ≢ n)) → node_times a n (suc height) at ≡ 0
      split below (inl s) = absurd (let e : None ≡ Some t.0 = sym none ∙ ap a.node (sym s.1) ∙ t.1 in cc)
      split below (inr s) =
          let rest : node_sum (node_times a n height) (a.node at) ≡ 0 = ap (node_sum (node_times a n height)) t.1 ∙ below in
          rw (s.0, rest) refl

-- an option is something or nothing
by_option : {X : Type 0} (P : Type 0) (x : Option X) → (x ≡ None → P) → ((x ≢ None) → P) → P
by_option P None none some = none refl
by_option P (Some y) none some = some (λ e. cc)

module _ {K V : Type 0} (cmp : K → K → Ordering) (o : IsTotalOrder cmp) (a : ArenaContent K V) (key : K) (left steps root : ℕ) (s : Stands cmp a (over steps (suc left)) root) where
  -- the node over the child that is split, and what stands around both
  abbrev pub parent : ℕ
  parent = way cmp a key steps root

  abbrev pub around_parent : Focus cmp a key (suc left) steps root None None
  around_parent = focus cmp o a key (suc left) steps root None None s.tree (tt, tt)

  abbrev pub kids : List (K × ℕ)
  kids = around_parent.tree.0.0.pairs

  abbrev pub last : ℕ
  last = around_parent.tree.0.1

  abbrev pub around_child : Turn cmp a key left kids last around_parent.from around_parent.upto
  around_child = turn cmp o a key left kids last around_parent.from around_parent.upto around_parent.tree.3 around_parent.key_within

  abbrev pub child : ℕ
  child = child_for cmp key kids last

  -- what a split leaves: two children for one, a node with one more separator, and all else as it was
  pub record IsSplit (b : ArenaContent K V) (sep : K) (fresh : ℕ) (node : Cells K ℕ) : Type 0 where
    pub within : IsWithin cmp around_child.from around_child.upto sep
    pub under : IsUnder cmp around_child.upto sep
    pub lower : IsTree cmp b left fresh around_child.from (Some sep)
    pub upper : IsTree cmp b left child (Some sep) around_child.upto
    pub pairs : pairs_under b left fresh ++ pairs_under b left child ≡ pairs_under a left child
    pub leaf_same : (n : ℕ) → leaf_times a n left child ≡ 0 → a.leaf n ≢ None → b.leaf n ≡ a.leaf n
    pub node_same : (n : ℕ) → node_times a n left child ≡ 0 → n ≢ parent → a.node n ≢ None → b.node n ≡ a.node n
    pub leaf_moved : (n : ℕ) → a.leaf n ≢ None → leaf_times b n left fresh + leaf_times b n left child ≡ leaf_times a n left child
    pub node_moved : (n : ℕ) → a.node n ≢ None → node_times b n left fresh + node_times b n left child ≡ node_times a n left child
    pub leaf_most : (n : ℕ) → leaf_times b n left fresh + leaf_times b n left child ≤ 1
    pub node_most : (n : ℕ) → n ≢ parent → node_times b n left fresh + node_times b n left child ≤ 1
    pub there : b.node parent ≡ Some (node, last)
    pub separators : node.pairs ≡ insert_entry cmp kids sep fresh
    pub is_node : IsNode node

  -- the tree stands, its pairs are as they were, and the way goes on to one of the two
  pub record IsDivided (b : ArenaContent K V) (sep : K) (fresh : ℕ) (node : Cells K ℕ) : Type 0 where
    pub stands : Stands cmp b (over steps (suc left)) root
    pub pairs : pairs_under b (over steps (suc left)) root ≡ pairs_under a (over steps (suc left)) root
    pub order : leaves_under b (over steps (suc left)) root ≡ (around_parent.lefts ++ around_child.lefts) ++ (leaves_under b left fresh ++ leaves_under b left child) ++ (around_child.rights ++ around_parent.rights)
    pub same_way : way cmp b key steps root ≡ parent
    pub next : child_for cmp key node.pairs last ≡ cond (is_lt (cmp sep key)) child fresh

  pub leaf_total : (n : ℕ) → leaf_times a n (over steps (suc left)) root ≡ around_parent.leaves n + (around_child.leaves n + leaf_times a n left child)
  leaf_total n =
      let r = around_parent.rebuilt a (record { leaf = λ n d. refl; node = λ n d. refl }) around_parent.tree in
      let t = around_child.again a (record { leaf = λ n d. refl; node = λ n d. refl }) around_child.tree in
      r.leaf n ∙ ap (λ m. around_parent.leaves n + m) (ap (node_sum (leaf_times a n left)) around_parent.tree.1 ∙ t.leaf n)

  pub node_total : (n : ℕ) → node_times a n (over steps (suc left)) root ≡ around_parent.nodes n + (cond (parent == n) 1 0 + (around_child.nodes n + node_times a n left child))
  node_total n =
      let r = around_parent.rebuilt a (record { leaf = λ n d. refl; node = λ n d. refl }) around_parent.tree in
      let t = around_child.again a (record { leaf = λ n d. refl; node = λ n d. refl }) around_child.tree in
      r.node n ∙ ap (λ m. around_parent.nodes n + (cond (parent == n) 1 0 + m)) (ap (node_sum (node_times a n left)) around_parent.tree.1 ∙ t.node n)

  pub pairs_total : pairs_under a (suc left) parent ≡ around_child.front ++ pairs_under a left child ++ around_child.back
  pairs_total =
      let t = around_child.again a (record { leaf = λ n d. refl; node = λ n d. refl }) around_child.tree in
      ap (node_joined (pairs_under a left)) around_parent.tree.1 ∙ t.pairs

  -- the leaves around those of the child
  pub order_total : leaves_under a (over steps (suc left)) root ≡ (around_parent.lefts ++ around_child.lefts) ++ leaves_under a left child ++ (around_child.rights ++ around_parent.rights)
  order_total =
      let r = around_parent.rebuilt a (record { leaf = λ n d. refl; node = λ n d. refl }) around_parent.tree in
      let t = around_child.again a (record { leaf = λ n d. refl; node = λ n d. refl }) around_child.tree in
      r.order ∙ ap (λ ns. around_parent.lefts ++ ns ++ around_parent.rights) (ap (node_joined (leaves_under a left)) around_parent.tree.1 ∙ t.order) ∙ simp append_assoc

  pub none_leaf : (n : ℕ) → a.leaf n ≡ None → leaf_times a n (over steps (suc left)) root ≡ 0
  none_leaf n e = leaf_absent cmp a n e (over steps (suc left)) root None None s.tree

  pub none_node : (n : ℕ) → a.node n ≡ None → node_times a n (over steps (suc left)) root ≡ 0
  none_node n e = node_absent cmp a n e (over steps (suc left)) root None None s.tree

  pub at_parent : (n : ℕ) → n ≡ parent → ◌≢◌ {A = ℕ} (cond (parent == n) 1 0) 0
  at_parent n e z = let one : (parent == n) ≡ true = eq-eqb parent n (sym e) in let q : ◌≡◌ {A = ℕ} 1 0 = sym (ap (λ b. cond b 1 0) one) ∙ z in omega (arith, q)

  module _ (b : ArenaContent K V) (sep : K) (fresh : ℕ) (node : Cells K ℕ) (t : IsSplit b sep fresh node) where
    agrees_child : Agrees a b around_child.leaves around_child.nodes
    agrees_child = record {
      leaf = λ n d. t.leaf_same n (omega (arith, d, leaf_total n, s.leaf_once n)) (λ e. d (omega (arith, leaf_total n, none_leaf n e)));
      node = λ n d. t.node_same n (omega (arith, d, node_total n, s.node_once n)) (λ e. at_parent n e (omega (arith, d, node_total n, s.node_once n))) (λ e. d (omega (arith, node_total n, none_node n e)));
    }

    agrees_parent : Agrees a b around_parent.leaves around_parent.nodes
    agrees_parent = record {
      leaf = λ n d. t.leaf_same n (omega (arith, d, leaf_total n, s.leaf_once n)) (λ e. d (omega (arith, leaf_total n, none_leaf n e)));
      node = λ n d. t.node_same n (omega (arith, d, node_total n, s.node_once n)) (λ e. at_parent n e (omega (arith, d, node_total n, s.node_once n))) (λ e. d (omega (arith, node_total n, none_node n e)));
    }

    parts : Parted cmp a key left b sep fresh kids last around_parent.from around_parent.upto around_child.front around_child.back around_child.lefts around_child.rights around_child.leaves around_child.nodes
    parts = around_child.parted b sep fresh agrees_child t.within t.under t.lower t.upper

    pub divided : IsDivided b sep fresh node
    divided =
        let between : AreBetween cmp (IsTree cmp b left) node.pairs last around_parent.from around_parent.upto = rw t.separators parts.between in
        let r = around_parent.rebuilt b agrees_parent ((node, last), t.there, t.is_node, between) in
        let leaf_b : (n : ℕ) → leaf_times b n (over steps (suc left)) root ≡ around_parent.leaves n + (around_child.leaves n + (leaf_times b n left fresh + leaf_times b n left child)) =
        λ n. r.leaf n ∙ ap (λ m. around_parent.leaves n + m) (ap (node_sum (leaf_times b n left)) t.there ∙ ap (λ es. sum_along (leaf_times b n left) es last) t.separators ∙ parts.leaf n) in
        let node_b : (n : ℕ) → node_times b n (over steps (suc left)) root ≡ around_parent.nodes n + (cond (parent == n) 1 0 + (around_child.nodes n + (node_times b n left fresh + node_times b n left child))) =
        λ n. r.node n ∙ ap (λ m. around_parent.nodes n + (cond (parent == n) 1 0 + m)) (ap (node_sum (node_times b n left)) t.there ∙ ap (λ es. sum_along (node_times b n left) es last) t.separators ∙ parts.node n) in
        record {
          stands = record {
            tree = r.tree;
            leaf_once = λ n. by_option (leaf_times b n (over steps (suc left)) root ≤ 1) (a.leaf n)
                (λ e. omega (arith, leaf_b n, leaf_total n, none_leaf n e, t.leaf_most n))
                (λ e. omega (arith, leaf_b n, leaf_total n, t.leaf_moved n e, s.leaf_once n));
            node_once = λ n. by_option (node_times b n (over steps (suc left)) root ≤ 1) (a.node n)
                (λ e. omega (arith, node_b n, node_total n, none_node n e, t.node_most n (λ q. at_parent n q (omega (arith, node_total n, none_node n e)))))
                (λ e. omega (arith, node_b n, node_total n, t.node_moved n e, s.node_once n));
          };
          pairs =
              r.pairs ∙ ap (λ ps. around_parent.front ++ ps ++ around_parent.back) (
              ap (node_joined (pairs_under b left)) t.there ∙ ap (λ es. joined_along (pairs_under b left) es last) t.separators ∙ parts.pairs
              ∙ ap (λ ps. around_child.front ++ ps ++ around_child.back) t.pairs ∙ sym pairs_total
              ) ∙ sym (around_parent.rebuilt a (record { leaf = λ n d. refl; node = λ n d. refl }) around_parent.tree).pairs;
          order =
              r.order ∙ ap (λ ns. around_parent.lefts ++ ns ++ around_parent.rights) (
              ap (node_joined (leaves_under b left)) t.there ∙ ap (λ es. joined_along (leaves_under b left) es last) t.separators ∙ parts.order
              ) ∙ simp append_assoc;
          same_way = r.same_way;
          next = ap (λ es. child_for cmp key es last) t.separators ∙ parts.child;
        }
