-- What doesn't stand in a tree leaves its arenas, and a root gives way to its one child.
use Rattle.std.proofs.Common.{◌≡◌, ◌≢◌, ◌⊎◌, inl, inr, ℕ, suc, ◌+◌, ◌-◌, ◌==◌, cond, List, length, Option, Some, None, refl, sym, ap, ◌∙◌, subst, arith}
use Rattle.std.specs.Option.{option_map}
use Rattle.std.specs.declared.cmp.Ordering.{Ordering}
use Rattle.slab.specs.Slab.{Slab, get, Updates}
use Rattle.leaf_array.specs.Cells.{Cells}
use Rattle.tree_nodes.specs.declared.leaf.Leaf.{Leaf}
use Rattle.tree_nodes.specs.declared.node.InnerNode.{InnerNode}
use Rattle.tree_nodes.specs.declared.arenas.Arenas.{Arenas}
use Rattle.tree_nodes.specs.Shape.{ArenaContent, AreBetween, joined_along, sum_along, node_joined, node_sum, leaf_pairs, pairs_under, leaves_under, leaf_times, node_times, IsTree, Stands}
use Rattle.tree_nodes.specs.Chain.{leaf_links, times, IsLinked}
use Rattle.tree_nodes.specs.Content.{content_of, pairs_of, leaves_of, HasNoTree, IsSound}
use Rattle.tree_nodes.specs.Prune.{IsCutOff, IsLowerable}
use Rattle.tree_nodes.specs.Walk.{pairs_in_leaf}
use Rattle.tree_nodes.proofs.ShapeLemmas.{self_once, IsSame, kept}
use Rattle.tree_nodes.proofs.WayLemmas.{some_same}
use Rattle.tree_nodes.proofs.ChainLemmas.{times_counted, linked_kept}
use Rattle.tree_nodes.proofs.PruneLemmas.{single_nodes, single_kept}

abbrev node_in : {K : Type 0} → Option (InnerNode K) → Option (Cells K ℕ × ℕ)
node_in = option_map (λ n. (n.children, n.last))

abbrev pub array_in : {K V : Type 0} → Option (Leaf K V) → Option (Cells K V)
array_in = option_map (λ l. l.array)

abbrev names_in : {K V : Type 0} → Option (Leaf K V) → Option (Option ℕ × Option ℕ)
names_in = option_map (λ l. (l.prev, l.next))

module _ {K V : Type 0} (cmp : K → K → Ordering) (a : Arenas K V) (s : IsSound cmp a) (planted : a.height ≢ 0) where
  abbrev c : ArenaContent K V
  c = content_of a

  standing : Stands cmp c a.height a.root
  standing = split s.stands
    where
      split : HasNoTree a ⊎ (a.height ≢ 0) × Stands cmp c a.height a.root → Stands cmp c a.height a.root
      split (inl bare) = absurd (planted bare.flat)
      split (inr stands) = stands.1

  module _ (nodes : Slab (InnerNode K)) (n : ℕ) (u : Updates a.nodes nodes n None) where
    abbrev pub fewer : Arenas K V
    fewer = record { leaves = a.leaves; nodes = nodes; root = a.root; height = a.height; len = a.len }

    abbrev b : ArenaContent K V
    b = content_of fewer

    others : (m : ℕ) → m ≢ n → b.node m ≡ c.node m
    others m d = ap node_in (u.others m d)

    module _ (out : node_times c n a.height a.root ≡ 0) where
      same : IsSame cmp c b a.height a.root None None
      same = kept cmp c b a.height a.root None None standing.tree (record { leaf = λ m d. refl; node = λ m d. others m (λ e. d (subst (λ (k : ℕ). node_times c k a.height a.root ≡ 0) (sym e) out)) })

      pub fewer_pairs : pairs_of fewer ≡ pairs_of a
      fewer_pairs = same.pairs

      pub fewer_order : leaves_of fewer ≡ leaves_of a
      fewer_order = same.order

      pub fewer_sound : IsSound cmp fewer
      fewer_sound = record {
        stands = inr (planted, record { tree = same.tree; leaf_once = λ m. omega (arith, same.leaves m, standing.leaf_once m); node_once = λ m. omega (arith, same.nodes m, standing.node_once m) });
        linked = λ h. subst (λ ns. IsLinked (leaf_links a.leaves) None ns None) (sym same.order) (s.linked h);
        count = s.count ∙ sym (ap length same.pairs);
      }

    first_out : (height leaf : ℕ) → IsCutOff a (suc height) n leaf → node_times c n a.height a.root ≡ 0
    first_out height leaf t = t.apart n (λ e. self_once n (node_times c n height t.single.0.1) (sym (single_nodes c n height n leaf t.single) ∙ e))

    -- the first of nodes with one child each leaves the arena, and the others are left
    pub freed : (height leaf : ℕ) (gone : InnerNode K) → get a.nodes n ≡ Some gone → (t : IsCutOff a (suc height) n leaf) → IsSound cmp fewer × (pairs_of fewer ≡ pairs_of a) × (leaves_of fewer ≡ leaves_of a) × IsCutOff fewer height gone.last leaf
    freed height leaf gone here t =
        let out = first_out height leaf t in
        let next : ℕ = t.single.0.1 in
        let last : next ≡ gone.last = ap (λ (x : Cells K ℕ × ℕ). x.1) (some_same (sym t.single.1 ∙ ap node_in here)) in
        let down : (m : ℕ) → node_times c m (suc height) n ≡ cond (n == m) 1 0 + node_times c m height next = λ m. single_nodes c m height n leaf t.single in
        let k = single_kept c b height next leaf t.single.3 (λ m d. others m (λ e. self_once n 0 (omega (arith, down n, t.once n, subst (λ (j : ℕ). node_times c j height next ≢ 0) e d)))) in (
          fewer_sound out,
          fewer_pairs out,
          fewer_order out,
          subst (λ (j : ℕ). IsCutOff fewer height j leaf) last (record {
            planted = planted;
            single = k.0;
            once = λ m. omega (arith, k.1 m, down m, t.once m);
            apart = λ m d. (same out).nodes m ∙ t.apart m (λ e. d (omega (arith, k.1 m, down m, e)));
            there = t.there;
            out = ap (times leaf) (fewer_order out) ∙ t.out;
          }),
        )

  -- a leaf that isn't in the tree leaves the arena
  module _ (leaves : Slab (Leaf K V)) (n : ℕ) (u : Updates a.leaves leaves n None) (out : times n (leaves_of a) ≡ 0) where
    abbrev pub without_leaf : Arenas K V
    without_leaf = record { leaves = leaves; nodes = a.nodes; root = a.root; height = a.height; len = a.len }

    abbrev d : ArenaContent K V
    d = content_of without_leaf

    apart : (m : ℕ) → times m (leaves_of a) ≢ 0 → m ≢ n
    apart m h e = h (subst (λ (k : ℕ). times k (leaves_of a) ≡ 0) (sym e) out)

    unchanged : IsSame cmp c d a.height a.root None None
    unchanged = kept cmp c d a.height a.root None None standing.tree (record { leaf = λ m h. ap array_in (u.others m (apart m (λ e. h (sym (times_counted c m a.height a.root) ∙ e)))); node = λ m h. refl })

    pub freed_leaf : IsSound cmp without_leaf × (pairs_of without_leaf ≡ pairs_of a) × (leaves_of without_leaf ≡ leaves_of a) × ((m : ℕ) → m ≢ n → pairs_in_leaf without_leaf m ≡ pairs_in_leaf a m)
    freed_leaf = (
      record {
        stands = inr (planted, record { tree = unchanged.tree; leaf_once = λ m. omega (arith, unchanged.leaves m, standing.leaf_once m); node_once = λ m. omega (arith, unchanged.nodes m, standing.node_once m) });
        linked = λ h. subst (λ ns. IsLinked (leaf_links leaves) None ns None) (sym unchanged.order) (linked_kept (leaf_links a.leaves) (leaf_links leaves) None (leaves_of a) None (λ m e. ap names_in (u.others m (apart m e))) (s.linked h));
        count = s.count ∙ sym (ap length unchanged.pairs);
      },
      unchanged.pairs,
      unchanged.order,
      λ m e. ap leaf_pairs (ap array_in (u.others m e)),
    )

-- the root gives way to its one child
module _ {K V : Type 0} (cmp : K → K → Ordering) (a : Arenas K V) (s : IsSound cmp a) (only : IsLowerable a) (child : ℕ) (last : only.root.last ≡ child) (nodes : Slab (InnerNode K)) (u : Updates a.nodes nodes a.root None) where
  abbrev m : ℕ
  m = a.height - 1

  abbrev pub lowered : Arenas K V
  lowered = record { leaves = a.leaves; nodes = nodes; root = child; height = m; len = a.len }

  abbrev old : ArenaContent K V
  old = content_of a

  abbrev new : ArenaContent K V
  new = content_of lowered

  height_is : a.height ≡ suc m
  height_is = omega (arith, only.tall)

  abbrev stands : Stands cmp old (suc m) a.root
  stands = subst (λ (n : ℕ). Stands cmp old n a.root) height_is (standing cmp a s (λ e. omega (arith, e, only.tall)))

  there : old.node a.root ≡ Some (only.root.children, only.root.last)
  there = ap node_in only.there

  node_is : stands.tree.0 ≡ (only.root.children, only.root.last)
  node_is = some_same (sym stands.tree.1 ∙ there)

  below : IsTree cmp old m child None None
  below =
      let t : AreBetween cmp (IsTree cmp old m) only.root.children.pairs only.root.last None None = subst (λ (x : Cells K ℕ × ℕ). AreBetween cmp (IsTree cmp old m) x.0.pairs x.1 None None) node_is stands.tree.3 in
      subst (λ (n : ℕ). IsTree cmp old m n None None) last (subst (λ (es : List (K × ℕ)). AreBetween cmp (IsTree cmp old m) es only.root.last None None) only.single t)

  one_joined : {X : Type 0} (f : ℕ → List X) → node_joined f (old.node a.root) ≡ f child
  one_joined f = ap (node_joined f) there ∙ ap (λ es. joined_along f es only.root.last) only.single ∙ ap f last

  one_sum : (f : ℕ → ℕ) → node_sum f (old.node a.root) ≡ f child
  one_sum f = ap (node_sum f) there ∙ ap (λ es. sum_along f es only.root.last) only.single ∙ ap f last

  nodes_are : (n : ℕ) → node_times old n (suc m) a.root ≡ cond (a.root == n) 1 0 + node_times old n m child
  nodes_are n = ap (λ (k : ℕ). cond (a.root == n) 1 0 + k) (one_sum (node_times old n m))

  same_below : IsSame cmp old new m child None None
  same_below = kept cmp old new m child None None below (record {
    leaf = λ n d. refl;
    node = λ n d. ap node_in (u.others n (λ e. self_once a.root 0 (omega (arith, nodes_are a.root, stands.node_once a.root, subst (λ (j : ℕ). node_times old j m child ≢ 0) e d))));
  })

  pub lowered_pairs : pairs_of lowered ≡ pairs_of a
  lowered_pairs = same_below.pairs ∙ sym (one_joined (pairs_under old m)) ∙ sym (ap (λ (n : ℕ). pairs_under old n a.root) height_is)

  pub lowered_order : leaves_of lowered ≡ leaves_of a
  lowered_order = same_below.order ∙ sym (one_joined (leaves_under old m)) ∙ sym (ap (λ (n : ℕ). leaves_under old n a.root) height_is)

  pub lowered_sound : IsSound cmp lowered
  lowered_sound = record {
    stands = inr (
      (λ e. omega (arith, e, only.tall)),
      record {
        tree = same_below.tree;
        leaf_once = λ n. omega (arith, same_below.leaves n, one_sum (leaf_times old n m), stands.leaf_once n);
        node_once = λ n. omega (arith, same_below.nodes n, nodes_are n, stands.node_once n);
      },
    );
    linked = λ h. subst (λ ns. IsLinked (leaf_links a.leaves) None ns None) (sym lowered_order) (s.linked (λ e. omega (arith, e, only.tall)));
    count = s.count ∙ sym (ap length lowered_pairs);
  }
