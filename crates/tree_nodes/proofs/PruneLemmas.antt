-- What stands in a tree without one of its leaves, and the nodes that had it alone.
use Rattle.std.proofs.Common.{◌≡◌, ◌≢◌, ◌≤◌, ◌<◌, ◌-◌, ℕ, zero, suc, ◌+◌, ◌==◌, true, false, cond, List, [], ◌∷◌, ◌++◌, length, take, Option, Some, None, refl, sym, ap, ◌∙◌, subst, arith, append_assoc}
use Rattle.std.specs.Prelude.{slice_get, IfSome}
use Rattle.std.specs.Option.{option_map}
use Rattle.std.specs.List.{remove}
use Rattle.std.specs.declared.cmp.Ordering.{Ordering}
use Rattle.std.specs.Ordering.{is_lt}
use Rattle.std.specs.Cmp.{IsTotalOrder}
use Rattle.leaf_array.specs.Cells.{Cells, lesser}
use Rattle.tree_nodes.specs.Shape.{ArenaContent, child_for, child_in, way, joined_along, sum_along, node_joined, node_sum, leaf_pairs, pairs_under, leaves_under, leaf_times, node_times, IsNode, Stands}
use Rattle.tree_nodes.specs.Content.{content_of}
use Rattle.tree_nodes.specs.declared.node.InnerNode.{InnerNode}
use Rattle.tree_nodes.specs.declared.arenas.Arenas.{Arenas}
use Rattle.tree_nodes.specs.declared.prune.Fork.{Fork}
use Rattle.slab.specs.Slab.{get}
use Rattle.tree_nodes.specs.Prune.{IsSingle}
use Rattle.tree_nodes.proofs.ShapeLemmas.{Agrees, self_once}
use Rattle.tree_nodes.proofs.FocusLemmas.{over, over_is, Turn, Focus, shed, in_front, Left}
use Rattle.tree_nodes.proofs.WayLemmas.{some_same}
use Rattle.tree_nodes.proofs.NodeSplitLemmas.{way_more}
use Rattle.tree_nodes.proofs.SplitLemmas.{parent, around_parent, around_child, child, last, leaf_total, node_total, at_parent}

module _ {K : Type 0} (cmp : K → K → Ordering) (key : K) where
  -- a child with a separator leaves with it
  pub shed_inner : (es : List (K × ℕ)) (last : ℕ) → lesser cmp key es < length es → shed cmp key es last ≡ Some (remove es (lesser cmp key es), last)
  shed_inner [] last h = absurd (omega (arith, h))
  shed_inner (e ∷ es) last h =
      (elim (is_lt (cmp e.0 key)) as (λ b. cond b (suc (lesser cmp key es)) 0 < suc (length es) → cond b (Some (in_front e (shed cmp key es last))) (Some (es, last)) ≡ Some (remove (e ∷ es) (cond b (suc (lesser cmp key es)) 0), last)) [
        | true ↦ λ h. ap (λ (s : Option (List (K × ℕ) × ℕ)). Some (in_front e s)) (shed_inner es last (omega (arith, h)))
        | false ↦ λ h. refl
      ]) h

  -- where the last child leaves, the greatest separator does, and its child is the last
  pub shed_outer : (e : K × ℕ) (es : List (K × ℕ)) (last : ℕ) (p : K × ℕ) → lesser cmp key (e ∷ es) ≡ suc (length es) → slice_get (e ∷ es) (length es) ≡ Some p → shed cmp key (e ∷ es) last ≡ Some (take (length es) (e ∷ es), p.1)
  shed_outer e [] last p h there =
      (elim (is_lt (cmp e.0 key)) as (λ b. ◌≡◌ {A = ℕ} (cond b 1 0) 1 → cond b (Some (in_front e None)) (Some ([], last)) ≡ Some ([], p.1)) [
        | true ↦ λ h. let same : e ≡ p = some_same there in ap (λ (x : K × ℕ). Some ([], x.1)) same
        | false ↦ λ h. absurd (omega (arith, h))
      ]) h
  shed_outer e (d ∷ es) last p h there =
      (elim (is_lt (cmp e.0 key)) as (λ b. cond b (suc (lesser cmp key (d ∷ es))) 0 ≡ suc (suc (length es)) → cond b (Some (in_front e (shed cmp key (d ∷ es) last))) (Some (d ∷ es, last)) ≡ Some (e ∷ take (length es) (d ∷ es), p.1)) [
        | true ↦ λ h. ap (λ (s : Option (List (K × ℕ) × ℕ)). Some (in_front e s)) (shed_outer d es last p (omega (arith, h)) there)
        | false ↦ λ h. absurd (omega (arith, h))
      ]) h

module _ {K V : Type 0} (cmp : K → K → Ordering) (o : IsTotalOrder cmp) (a : ArenaContent K V) (key : K) (left steps root : ℕ) (s : Stands cmp a (over steps (suc left)) root) where
  abbrev pub above : ℕ
  above = parent cmp o a key left steps root s

  abbrev pub outer : Focus cmp a key (suc left) steps root None None
  outer = around_parent cmp o a key left steps root s

  abbrev pub inner : Turn cmp a key left outer.tree.0.0.pairs outer.tree.0.1 outer.from outer.upto
  inner = around_child cmp o a key left steps root s

  abbrev pub kid : ℕ
  kid = child cmp o a key left steps root s

  -- the node above has one child less, and all else is as it was, but under that child
  pub record IsPruned (b : ArenaContent K V) (node : Cells K ℕ) (end : ℕ) : Type 0 where
    pub there : b.node above ≡ Some (node, end)
    pub rest : shed cmp key outer.tree.0.0.pairs outer.tree.0.1 ≡ Some (node.pairs, end)
    pub is_node : IsNode node
    pub leaf_same : (n : ℕ) → leaf_times a n left kid ≡ 0 → b.leaf n ≡ a.leaf n
    pub node_same : (n : ℕ) → node_times a n left kid ≡ 0 → n ≢ above → b.node n ≡ a.node n

  pub record Remains (b : ArenaContent K V) : Type 0 where
    pub stands : Stands cmp b (over steps (suc left)) root
    pub pairs : pairs_under b (over steps (suc left)) root ≡ (outer.front ++ inner.front) ++ (inner.back ++ outer.back)
    pub order : leaves_under b (over steps (suc left)) root ≡ (outer.lefts ++ inner.lefts) ++ (inner.rights ++ outer.rights)
    pub leaf : (n : ℕ) → leaf_times b n (over steps (suc left)) root + leaf_times a n left kid ≡ leaf_times a n (over steps (suc left)) root
    pub node : (n : ℕ) → node_times b n (over steps (suc left)) root + node_times a n left kid ≡ node_times a n (over steps (suc left)) root

  module _ (b : ArenaContent K V) (node : Cells K ℕ) (end : ℕ) (t : IsPruned b node end) where
    agrees_inner : Agrees a b inner.leaves inner.nodes
    agrees_inner = record {
      leaf = λ n d. t.leaf_same n (omega (arith, d, leaf_total cmp o a key left steps root s n, s.leaf_once n));
      node = λ n d. t.node_same n (omega (arith, d, node_total cmp o a key left steps root s n, s.node_once n)) (λ e. at_parent cmp o a key left steps root s n e (omega (arith, d, node_total cmp o a key left steps root s n, s.node_once n)));
    }

    agrees_outer : Agrees a b outer.leaves outer.nodes
    agrees_outer = record {
      leaf = λ n d. t.leaf_same n (omega (arith, d, leaf_total cmp o a key left steps root s n, s.leaf_once n));
      node = λ n d. t.node_same n (omega (arith, d, node_total cmp o a key left steps root s n, s.node_once n)) (λ e. at_parent cmp o a key left steps root s n e (omega (arith, d, node_total cmp o a key left steps root s n, s.node_once n)));
    }

    others : Left cmp a key left b (Some (node.pairs, end)) outer.from outer.upto inner.front inner.back inner.lefts inner.rights inner.leaves inner.nodes
    others = subst (λ (x : Option (List (K × ℕ) × ℕ)). Left cmp a key left b x outer.from outer.upto inner.front inner.back inner.lefts inner.rights inner.leaves inner.nodes) t.rest (inner.left b agrees_inner)

    pub remains : Remains b
    remains =
        let r = outer.rebuilt b agrees_outer ((node, end), t.there, t.is_node, others.between) in
        let leaf_b : (n : ℕ) → leaf_times b n (over steps (suc left)) root ≡ outer.leaves n + inner.leaves n =
        λ n. r.leaf n ∙ ap (λ m. outer.leaves n + m) (ap (node_sum (leaf_times b n left)) t.there ∙ others.leaf n) in
        let node_b : (n : ℕ) → node_times b n (over steps (suc left)) root ≡ outer.nodes n + (cond (above == n) 1 0 + inner.nodes n) =
        λ n. r.node n ∙ ap (λ m. outer.nodes n + (cond (above == n) 1 0 + m)) (ap (node_sum (node_times b n left)) t.there ∙ others.node n) in
        record {
          stands = record {
            tree = r.tree;
            leaf_once = λ n. omega (arith, leaf_b n, leaf_total cmp o a key left steps root s n, s.leaf_once n);
            node_once = λ n. omega (arith, node_b n, node_total cmp o a key left steps root s n, s.node_once n);
          };
          pairs = r.pairs ∙ ap (λ ps. outer.front ++ ps ++ outer.back) (ap (node_joined (pairs_under b left)) t.there ∙ others.pairs) ∙ simp append_assoc;
          order = r.order ∙ ap (λ ns. outer.lefts ++ ns ++ outer.rights) (ap (node_joined (leaves_under b left)) t.there ∙ others.order) ∙ simp append_assoc;
          leaf = λ n. omega (arith, leaf_b n, leaf_total cmp o a key left steps root s n);
          node = λ n. omega (arith, node_b n, node_total cmp o a key left steps root s n);
        }

-- ---- nodes with one child each

module _ {K V : Type 0} (a : ArenaContent K V) where
  pub single_leaves : (height at leaf : ℕ) → IsSingle a height at leaf → leaves_under a height at ≡ leaf ∷ []
  single_leaves zero at leaf t = ap (λ (n : ℕ). n ∷ []) t
  single_leaves (suc height) at leaf t = ap (node_joined (leaves_under a height)) t.1 ∙ ap (λ es. joined_along (leaves_under a height) es t.0.1) t.2 ∙ single_leaves height t.0.1 leaf t.3

  pub single_pairs : (height at leaf : ℕ) → IsSingle a height at leaf → pairs_under a height at ≡ leaf_pairs (a.leaf leaf)
  single_pairs zero at leaf t = ap (λ (n : ℕ). leaf_pairs (a.leaf n)) t
  single_pairs (suc height) at leaf t = ap (node_joined (pairs_under a height)) t.1 ∙ ap (λ es. joined_along (pairs_under a height) es t.0.1) t.2 ∙ single_pairs height t.0.1 leaf t.3

  pub single_times : (n height at leaf : ℕ) → IsSingle a height at leaf → leaf_times a n height at ≡ cond (leaf == n) 1 0
  single_times n zero at leaf t = ap (λ (k : ℕ). cond (k == n) 1 0) t
  single_times n (suc height) at leaf t = ap (node_sum (leaf_times a n height)) t.1 ∙ ap (λ es. sum_along (leaf_times a n height) es t.0.1) t.2 ∙ single_times n height t.0.1 leaf t.3

  pub single_nodes : (n height at leaf : ℕ) → (t : IsSingle a (suc height) at leaf) → node_times a n (suc height) at ≡ cond (at == n) 1 0 + node_times a n height t.0.1
  single_nodes n height at leaf t = ap (λ (m : ℕ). cond (at == n) 1 0 + m) (ap (node_sum (node_times a n height)) t.1 ∙ ap (λ es. sum_along (node_times a n height) es t.0.1) t.2)

  -- they can be more by one at their end
  pub single_more : (height at next : ℕ) (n : Cells K ℕ × ℕ) → IsSingle a height at next → a.node next ≡ Some n → n.0.pairs ≡ [] → IsSingle a (suc height) at n.1
  single_more zero at next n t there none = (n, ap a.node t ∙ there, none, refl)
  single_more (suc height) at next n t there none = (t.0, t.1, t.2, single_more height t.0.1 next n t.3 there none)

-- they stay as long as their numbers hold what they did
pub single_kept : {K V : Type 0} (a b : ArenaContent K V) (height at leaf : ℕ) → IsSingle a height at leaf → ((n : ℕ) → node_times a n height at ≢ 0 → b.node n ≡ a.node n) → IsSingle b height at leaf × ((n : ℕ) → node_times b n height at ≡ node_times a n height at)
single_kept a b zero at leaf t same = (t, λ n. refl)
single_kept a b (suc height) at leaf t same =
    let here : b.node at ≡ a.node at = same at (self_once at (node_sum (node_times a at height) (a.node at))) in
    let rest = single_kept a b height t.0.1 leaf t.3 (λ n d. same n (λ e. d (omega (arith, e, single_nodes a n height at leaf t)))) in
    let all : IsSingle b (suc height) at leaf = (t.0, here ∙ t.1, t.2, rest.0) in
    (all, λ n. single_nodes b n height at leaf all ∙ ap (λ (m : ℕ). cond (at == n) 1 0 + m) (rest.1 n) ∙ sym (single_nodes a n height at leaf t))

-- ---- the way to a fork

-- a node with more than one child, from which nodes with one child each have led to a number at a height
pub record IsForkTo {K V : Type 0} (cmp : K → K → Ordering) (key : K) (a : Arenas K V) (height at : ℕ) (f : Fork) : Type 0 where
  pub above : f.height < a.height
  pub on : f.node ≡ way cmp (content_of a) key (a.height - suc f.height) a.root
  pub node : InnerNode K
  pub there : get a.nodes f.node ≡ Some node
  pub more : node.children.pairs ≢ []
  pub place : f.place ≡ lesser cmp key node.children.pairs
  pub child : f.child ≡ child_for cmp key node.children.pairs node.last
  pub least : height ≤ f.height
  pub single : IsSingle (content_of a) (f.height - height) f.child at

pub each_some : {X : Type 0} (P Q : X → Type 0) (o : Option X) → ((x : X) → P x → Q x) → IfSome o P → IfSome o Q
each_some P Q None f p = tt
each_some P Q (Some x) f p = f x p

module _ {K V : Type 0} (cmp : K → K → Ordering) (key : K) (a : Arenas K V) (height at : ℕ) (node : InnerNode K) (here : get a.nodes at ≡ Some node) (within : suc height ≤ a.height) (on : at ≡ way cmp (content_of a) key (a.height - suc height) a.root) where
  abbrev next : ℕ
  next = child_for cmp key node.children.pairs node.last

  there : (content_of a).node at ≡ Some (node.children, node.last)
  there = ap (option_map (λ (b : InnerNode K). (b.children, b.last))) here

  -- the child is the next on the way
  pub on_next : next ≡ way cmp (content_of a) key (a.height - height) a.root
  on_next =
      let deeper : a.height - height ≡ over (a.height - suc height) 1 = omega (arith, within, over_is (a.height - suc height) 1) in
      sym (
      ap (λ (n : ℕ). way cmp (content_of a) key n a.root) deeper ∙ way_more cmp (content_of a) key (a.height - suc height) 1 a.root
      ∙ ap (λ (k : ℕ). child_in cmp key k ((content_of a).node k)) (sym on) ∙ ap (child_in cmp key at) there
      )

  pub fork_here : node.children.pairs ≢ [] → (place child : ℕ) → place ≡ lesser cmp key node.children.pairs → child ≡ next → IsForkTo cmp key a height child (record { node = at; place = place; child = child; height = height })
  fork_here more place child p q =
      let none : height - height ≡ 0 = omega arith in
      record { above = omega (arith, within); on = on; node = node; there = here; more = more; place = p; child = q; least = omega arith; single = subst (λ (n : ℕ). IsSingle (content_of a) n child child) (sym none) refl }

  pub fork_above : node.children.pairs ≡ [] → (child : ℕ) → child ≡ next → (f : Fork) → IsForkTo cmp key a (suc height) at f → IsForkTo cmp key a height child f
  fork_above none child q f t =
      let more : f.height - height ≡ suc (f.height - suc height) = omega (arith, t.least) in
      let last : next ≡ node.last = ap (λ es. child_for cmp key es node.last) none in
      record {
        above = t.above;
        on = t.on;
        node = t.node;
        there = t.there;
        more = t.more;
        place = t.place;
        child = t.child;
        least = omega (arith, t.least);
        single = subst (λ (n : ℕ). IsSingle (content_of a) n f.child child) (sym more) (subst (IsSingle (content_of a) (suc (f.height - suc height)) f.child) (sym (q ∙ last)) (single_more (content_of a) (f.height - suc height) f.child at (node.children, node.last) t.single there none));
      }
