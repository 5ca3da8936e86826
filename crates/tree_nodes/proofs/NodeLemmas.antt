-- What stands on the way to a key in the arenas of a planted tree.
use Rattle.std.proofs.Common.{◌≡◌, ◌≢◌, ◌≤◌, ◌<◌, ◌⊎◌, inl, inr, ℕ, suc, ◌-◌, Option, Some, None, cond, List, refl, sym, ap, ◌∙◌, subst, arith}
use Rattle.std.specs.Option.{option_map}
use Rattle.std.specs.declared.cmp.Ordering.{Ordering}
use Rattle.std.specs.Cmp.{IsTotalOrder}
use Rattle.slab.specs.Slab.{Slab, get, with_value, slab_len}
use Rattle.slab.proofs.SlabLemmas.{ContainsKey-within}
use Rattle.std.proofs.lemmas.List.Sums.{sum_by-set}
use Rattle.std.specs.Option.{is_some}
use Rattle.leaf_array.specs.Cells.{Cells}
use Rattle.tree_nodes.specs.declared.leaf.Leaf.{Leaf}
use Rattle.tree_nodes.specs.declared.node.InnerNode.{InnerNode}
use Rattle.tree_nodes.specs.declared.arenas.Arenas.{Arenas}
use Rattle.tree_nodes.specs.Shape.{way, child_for, IsNode, IsTree, Stands}
use Rattle.tree_nodes.specs.Content.{content_of, pairs_of, IsLeafFull, HasNoTree, IsSound}
use Rattle.tree_nodes.specs.Depth.{ascending_headroom}
use Rattle.tree_nodes.proofs.FocusLemmas.{over, over_is, focus}
use Rattle.tree_nodes.proofs.WayLemmas.{IsStep, some_same, leaf_there, step_down}

module _ {K V : Type 0} (cmp : K → K → Ordering) (o : IsTotalOrder cmp) (key : K) (a : Arenas K V) where
  pub planted : IsSound cmp a → a.height ≢ 0 → Stands cmp (content_of a) a.height a.root
  planted s h = split s.stands
    where
      split : HasNoTree a ⊎ (a.height ≢ 0) × Stands cmp (content_of a) a.height a.root → Stands cmp (content_of a) a.height a.root
      split (inl bare) = absurd (h bare.flat)
      split (inr stands) = stands.1

  pub bare_of : IsSound cmp a → a.height ≡ 0 → HasNoTree a
  bare_of s h = split s.stands
    where
      split : HasNoTree a ⊎ (a.height ≢ 0) × Stands cmp (content_of a) a.height a.root → HasNoTree a
      split (inl bare) = bare
      split (inr stands) = absurd (stands.0 h)

  pub leaf_content : (n : ℕ) (l : Option (Leaf K V)) → get a.leaves n ≡ l → (content_of a).leaf n ≡ option_map (λ l. l.array) l
  leaf_content n l h = ap (option_map (λ (l : Leaf K V). l.array)) h

  pub node_content : (n : ℕ) (b : Option (InnerNode K)) → get a.nodes n ≡ b → (content_of a).node n ≡ option_map (λ b. (b.children, b.last)) b
  node_content n b h = ap (option_map (λ (b : InnerNode K). (b.children, b.last))) h

  -- a planted tree has a leaf on the way
  pub leaf_not_none : IsSound cmp a → a.height ≢ 0 → (n : ℕ) → n ≡ way cmp (content_of a) key a.height a.root → get a.leaves n ≢ None
  leaf_not_none s h n on e =
      let t = leaf_there cmp o key (content_of a) a.height a.root (planted s h).tree in
      let none : (content_of a).leaf n ≡ None = leaf_content n None e in
      let x : None ≡ Some t.0 = sym none ∙ ap (content_of a).leaf on ∙ t.1 in
      cc

  -- the node at a height
  module _ (s : IsSound cmp a) (left : ℕ) (least : 0 < left) (most : left ≤ a.height) where
    abbrev steps : ℕ
    steps = a.height - left

    height_is : over steps (suc (left - 1)) ≡ a.height
    height_is = omega (arith, over_is steps (suc (left - 1)))

    node_found : (n : Cells K ℕ × ℕ) × ((content_of a).node (way cmp (content_of a) key steps a.root) ≡ Some n) × IsNode n.0
    node_found =
        let f = focus cmp o (content_of a) key (suc (left - 1)) steps a.root None None (subst (λ (n : ℕ). IsTree cmp (content_of a) n a.root None None) (sym height_is) (planted s (λ e. omega (arith, e))).tree) (tt, tt) in
        (f.tree.0, f.tree.1, f.tree.2)

    pub node_not_none : (n : ℕ) → n ≡ way cmp (content_of a) key steps a.root → get a.nodes n ≢ None
    node_not_none n on e =
        let none : (content_of a).node n ≡ None = node_content n None e in
        let x : None ≡ Some node_found.0 = sym none ∙ ap (content_of a).node on ∙ node_found.1 in
        cc

    pub node_is : (n : ℕ) → n ≡ way cmp (content_of a) key steps a.root → (b : InnerNode K) → get a.nodes n ≡ Some b → IsNode b.children
    node_is n on b here =
        let same : node_found.0 ≡ (b.children, b.last) = some_same (sym node_found.1 ∙ ap (content_of a).node (sym on) ∙ node_content n (Some b) here) in
        subst (λ (m : Cells K ℕ × ℕ). IsNode m.0) same node_found.2

-- a tree of at least one node
module _ {K V : Type 0} (cmp : K → K → Ordering) (a : Arenas K V) (height at : ℕ) (tree : height ≢ 0 → (low : Option K) × (high : Option K) × IsTree cmp (content_of a) height at low high) (some : height ≢ 0) where
  more : (low : Option K) × (high : Option K) × IsTree cmp (content_of a) (suc (height - 1)) at low high
  more =
      let deeper : height ≡ suc (height - 1) = omega (arith, some) in
      let t = tree some in
      (t.0, t.1, subst (λ (n : ℕ). IsTree cmp (content_of a) n at t.0 t.1) deeper t.2)

  -- has a node where it stands
  pub tree_there : None ≢ get a.nodes at
  tree_there none = let e : None ≡ Some more.2.0 = ap (option_map (λ (n : InnerNode K). (n.children, n.last))) none ∙ more.2.1 in cc

  -- and a tree under it, on the way to a key
  pub tree_step : (key : K) (steps : ℕ) (node : InnerNode K) → get a.nodes at ≡ Some node → IsStep cmp key (content_of a) (height - 1) steps at (child_for cmp key node.children.pairs node.last)
  tree_step key steps node here = step_down cmp key (content_of a) (height - 1) steps at (node.children, node.last) more.0 more.1 more.2 (ap (option_map (λ (n : InnerNode K). (n.children, n.last))) here)

-- a write through a slab leaves as many values
pub same_len : {T : Type 0} (s : Slab T) (k : ℕ) (old new : T) → get s k ≡ Some old → slab_len (with_value s k new) ≡ slab_len s
same_len {T} s k old new here =
    let one : Option T → ℕ = λ o. cond (is_some o) 1 0 in
    let e = sum_by-set one s.slots k (Some new) None (ContainsKey-within s k (rw here refl)) in
    let f : one (get s k) ≡ 1 = ap one here in
    omega (arith, e, f)

-- slabs with other room hold the same
module _ {K V : Type 0} (cmp : K → K → Ordering) (a : Arenas K V) (leaves : Slab (Leaf K V)) (nodes : Slab (InnerNode K)) where
  abbrev roomier : List (Option (Leaf K V)) → List (Option (InnerNode K)) → Arenas K V
  roomier ls ns =
      record {
        leaves = record { slots = ls; vacant_key = leaves.vacant_key; capacity = leaves.capacity };
        nodes = record { slots = ns; vacant_key = nodes.vacant_key; capacity = nodes.capacity };
        root = a.root;
        height = a.height;
        len = a.len;
      }

  same_slots : IsSound cmp a → IsSound cmp (roomier a.leaves.slots a.nodes.slots)
  same_slots s = record { stands = split s.stands; linked = s.linked; count = s.count }
    where
      split : HasNoTree a ⊎ (a.height ≢ 0) × Stands cmp (content_of a) a.height a.root → HasNoTree (roomier a.leaves.slots a.nodes.slots) ⊎ (a.height ≢ 0) × Stands cmp (content_of a) a.height a.root
      split (inl bare) = inl (record { flat = bare.flat; empty = bare.empty })
      split (inr stands) = inr stands

  pub roomier_ascents : leaves.slots ≡ a.leaves.slots → nodes.slots ≡ a.nodes.slots → ascending_headroom cmp (record { leaves = leaves; nodes = nodes; root = a.root; height = a.height; len = a.len }) ≡ ascending_headroom cmp a
  roomier_ascents e f = subst (λ ls. ascending_headroom cmp (roomier ls nodes.slots) ≡ ascending_headroom cmp a) (sym e) (subst (λ ns. ascending_headroom cmp (roomier a.leaves.slots ns) ≡ ascending_headroom cmp a) (sym f) refl)

  pub roomier_pairs : leaves.slots ≡ a.leaves.slots → nodes.slots ≡ a.nodes.slots → pairs_of (record { leaves = leaves; nodes = nodes; root = a.root; height = a.height; len = a.len }) ≡ pairs_of a
  roomier_pairs e f = subst (λ ls. pairs_of (roomier ls nodes.slots) ≡ pairs_of a) (sym e) (subst (λ ns. pairs_of (roomier a.leaves.slots ns) ≡ pairs_of a) (sym f) refl)

  pub roomier_full : (key : K) → leaves.slots ≡ a.leaves.slots → nodes.slots ≡ a.nodes.slots → IsLeafFull cmp key a → IsLeafFull cmp key (record { leaves = leaves; nodes = nodes; root = a.root; height = a.height; len = a.len })
  roomier_full key e f full =
      subst (λ ls. IsLeafFull cmp key (roomier ls nodes.slots)) (sym e) (subst (λ ns. IsLeafFull cmp key (roomier a.leaves.slots ns)) (sym f) (record { leaf = full.leaf; there = full.there; full = full.full }))

  pub roomier_sound : leaves.slots ≡ a.leaves.slots → nodes.slots ≡ a.nodes.slots → IsSound cmp a → IsSound cmp (record { leaves = leaves; nodes = nodes; root = a.root; height = a.height; len = a.len })
  roomier_sound e f s = subst (λ ls. IsSound cmp (roomier ls nodes.slots)) (sym e) (subst (λ ns. IsSound cmp (roomier a.leaves.slots ns)) (sym f) (same_slots s))
