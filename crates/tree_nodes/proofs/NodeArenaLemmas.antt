-- A node of the arenas that is split in two.
use Rattle.std.proofs.Common.{◌≡◌, ◌≢◌, ◌≤◌, ◌<◌, inr, ℕ, suc, ◌+◌, ◌-◌, List, [], ◌∷◌, ◌++◌, Option, Some, None, refl, sym, ap, ◌∙◌, subst, arith}
use Rattle.std.specs.Prelude.{length}
use Rattle.std.specs.Option.{option_map}
use Rattle.std.specs.declared.cmp.Ordering.{Ordering}
use Rattle.std.specs.Cmp.{IsTotalOrder}
use Rattle.std.specs.Map.{lookup}
use Rattle.std.specs.BTreeMap.{insert_entry, is_at}
use Rattle.slab.specs.Slab.{Slab, get, with_value, Updates, slab_len}
use Rattle.slab.proofs.SlabLemmas.{Updates-with_value}
use Rattle.leaf_array.specs.Cells.{Cells}
use Rattle.tree_nodes.specs.declared.node.InnerNode.{InnerNode}
use Rattle.tree_nodes.specs.declared.arenas.Arenas.{Arenas}
use Rattle.tree_nodes.specs.Shape.{ArenaContent, way, pairs_under, leaves_under, IsNode, Stands}
use Rattle.tree_nodes.specs.Chain.{leaf_links, IsLinked}
use Rattle.tree_nodes.specs.Content.{content_of, pairs_of, leaves_of, IsSound, NodeHasRoom}
use Rattle.tree_nodes.proofs.FocusLemmas.{over, over_is}
use Rattle.tree_nodes.proofs.WayLemmas.{some_same}
use Rattle.tree_nodes.proofs.SplitLemmas.{around_parent, around_child, child}
use Rattle.tree_nodes.proofs.NodeSplitLemmas.{IsNodeSplit, node_divided, same_order, leaf_way, by_side, child_apart, child_is, not_above}
use Rattle.tree_nodes.proofs.NodeLemmas.{planted, node_content}

-- a list of seven has a first
pub first_of : {X : Type 0} (xs : List X) → length xs ≡ 7 → (y : X) × (ys : List X) × (xs ≡ y ∷ ys)
first_of [] h = absurd (omega (arith, h))
first_of (y ∷ ys) h = (y, ys, refl)

-- where nothing is behind a write of a value, nothing was before
pub none_before : {X : Type 0} (s s' : Slab X) (at other : ℕ) (x : X) → Updates s s' at (Some x) → None ≡ get s' other → None ≡ get s other
none_before s s' at other x u none = none ∙ u.others other (λ e. let h : None ≡ Some x = none ∙ ap (get s') e ∙ u.changed in cc)

-- a full node on the way to a key that was split, its lower half at a new number, and the node above it
pub record IsNodeCut {K V : Type 0} (cmp : K → K → Ordering) (key : K) (a : Arenas K V) (left above at : ℕ) (whole up low old : InnerNode K) (sep : K) (nodes : Slab (InnerNode K)) (fresh : ℕ) : Type 0 where
  pub total : IsTotalOrder cmp
  pub sound : IsSound cmp a
  pub least : 0 < left
  pub most : left < a.height
  pub on_above : above ≡ way cmp (content_of a) key (a.height - (left + 1)) a.root
  pub on : at ≡ way cmp (content_of a) key (a.height - left) a.root
  pub here : get a.nodes at ≡ Some whole
  pub parts : whole.children.pairs ≡ low.children.pairs ++ (sep, low.last) ∷ up.children.pairs
  pub low_node : IsNode low.children
  pub up_node : IsNode up.children
  pub up_used : up.children.used ≡ 7
  pub low_used : low.children.used ≡ 7
  pub up_last : up.last ≡ whole.last
  pub added : Updates (with_value a.nodes at up) nodes fresh (Some low)
  pub vacant : get (with_value a.nodes at up) fresh ≡ None
  pub there : get nodes above ≡ Some old

module _ {K V : Type 0} {cmp : K → K → Ordering} {key : K} {a : Arenas K V} {left above at : ℕ} {whole up low old : InnerNode K} {sep : K} {nodes : Slab (InnerNode K)} {fresh : ℕ} (t : IsNodeCut cmp key a left above at whole up low old sep nodes fresh) where
  abbrev c : ArenaContent K V
  c = content_of a

  abbrev steps : ℕ
  steps = a.height - (left + 1)

  abbrev l : ℕ
  l = left - 1

  height_is : over steps (suc (suc l)) ≡ a.height
  height_is = omega (arith, over_is steps (suc (suc l)))

  abbrev stands : Stands cmp c (over steps (suc (suc l))) a.root
  stands = subst (λ (n : ℕ). Stands cmp c n a.root) (sym height_is) (planted cmp t.total key a t.sound (λ e. omega (arith, e)))

  abbrev kid : ℕ
  kid = child cmp t.total c key (suc l) steps a.root stands

  at_is : at ≡ kid
  at_is =
      let more : a.height - left ≡ over steps 1 = omega (arith, over_is steps 1) in
      t.on ∙ ap (λ (n : ℕ). way cmp c key n a.root) more ∙ child_is cmp t.total c key l steps a.root stands

  apart : at ≢ above
  apart e = child_apart cmp t.total c key l steps a.root stands (sym at_is ∙ e ∙ t.on_above)

  full_is : (around_child cmp t.total c key (suc l) steps a.root stands).tree.0 ≡ (whole.children, whole.last)
  full_is = some_same (sym (around_child cmp t.total c key (suc l) steps a.root stands).tree.1 ∙ ap c.node (sym at_is) ∙ node_content cmp t.total key a at (Some whole) t.here)

  turned : Updates a.nodes (with_value a.nodes at up) at (Some up)
  turned = Updates-with_value a.nodes at up (rw t.here refl)

  fresh_not_at : fresh ≢ at
  fresh_not_at e = let x : None ≡ Some up = sym t.vacant ∙ ap (get (with_value a.nodes at up)) e ∙ turned.changed in cc

  absent : get a.nodes fresh ≡ None
  absent = sym (turned.others fresh fresh_not_at) ∙ t.vacant

  fresh_not_above : fresh ≢ above
  fresh_not_above e =
      let f = around_parent cmp t.total c key (suc l) steps a.root stands in
      let x : None ≡ Some f.tree.0 = sym (node_content cmp t.total key a fresh None absent) ∙ ap c.node (e ∙ t.on_above) ∙ f.tree.1 in
      cc

  pub old_there : get a.nodes above ≡ Some old
  old_there = sym (turned.others above (λ e. apart (sym e))) ∙ sym (t.added.others above (λ e. fresh_not_above (sym e))) ∙ t.there

  parent_is : (around_parent cmp t.total c key (suc l) steps a.root stands).tree.0 ≡ (old.children, old.last)
  parent_is = some_same (sym (around_parent cmp t.total c key (suc l) steps a.root stands).tree.1 ∙ ap c.node (sym t.on_above) ∙ node_content cmp t.total key a above (Some old) old_there)

  upper_first : (y : K × ℕ) × (ys : List (K × ℕ)) × (up.children.pairs ≡ y ∷ ys)
  upper_first = first_of up.children.pairs (sym t.up_node.packed ∙ t.up_used)

  abbrev y : K × ℕ
  y = upper_first.0

  abbrev ys : List (K × ℕ)
  ys = upper_first.1

  all_parts : (around_child cmp t.total c key (suc l) steps a.root stands).tree.0.0.pairs ≡ low.children.pairs ++ (sep, low.last) ∷ (y ∷ ys)
  all_parts = ap (λ (x : Cells K ℕ × ℕ). x.0.pairs) full_is ∙ t.parts ∙ ap (λ zs. low.children.pairs ++ (sep, low.last) ∷ zs) upper_first.2

  pub old_node : IsNode old.children
  old_node = subst (λ (x : Cells K ℕ × ℕ). IsNode x.0) parent_is (around_parent cmp t.total c key (suc l) steps a.root stands).tree.2

  pub absent_above : lookup (is_at (cmp sep)) old.children.pairs ≡ None
  absent_above = subst (λ (x : Cells K ℕ × ℕ). lookup (is_at (cmp sep)) x.0.pairs ≡ None) parent_is (not_above cmp t.total c key l steps a.root stands c fresh low.children up.children old.children sep low.last y ys all_parts)

  module _ (m : InnerNode K) (m_node : IsNode m.children) (m_pairs : m.children.pairs ≡ insert_entry cmp old.children.pairs sep fresh) (m_last : m.last ≡ old.last) where
    abbrev pub done : Arenas K V
    done = record { leaves = a.leaves; nodes = with_value nodes above m; root = a.root; height = a.height; len = a.len }

    abbrev b : ArenaContent K V
    b = content_of done

    last_turn : Updates nodes (with_value nodes above m) above (Some m)
    last_turn = Updates-with_value nodes above m (rw t.there refl)

    node : Option (InnerNode K) → Option (Cells K ℕ × ℕ)
    node = option_map (λ (n : InnerNode K). (n.children, n.last))

    at_fresh : get done.nodes fresh ≡ Some low
    at_fresh = last_turn.others fresh fresh_not_above ∙ t.added.changed

    at_at : get done.nodes at ≡ Some up
    at_at = last_turn.others at apart ∙ t.added.others at (λ e. fresh_not_at (sym e)) ∙ turned.changed

    split : IsNodeSplit cmp t.total c key l steps a.root stands b fresh low.children up.children m.children sep low.last y ys
    split = record {
      parts = all_parts;
      rest = upper_first.2;
      absent = ap (option_map (λ (n : InnerNode K). (n.children, n.last))) absent;
      at_fresh = ap (option_map (λ (n : InnerNode K). (n.children, n.last))) at_fresh;
      at_child = ap b.node (sym at_is) ∙ ap (option_map (λ (n : InnerNode K). (n.children, n.last))) at_at ∙ ap (λ (k : ℕ). Some (up.children, k)) (t.up_last ∙ sym (ap (λ (x : Cells K ℕ × ℕ). x.1) full_is));
      at_parent = ap b.node (sym t.on_above) ∙ ap (option_map (λ (n : InnerNode K). (n.children, n.last))) last_turn.changed ∙ ap (λ (k : ℕ). Some (m.children, k)) (m_last ∙ sym (ap (λ (x : Cells K ℕ × ℕ). x.1) parent_is));
      others = λ n f q r. ap (option_map (λ (n : InnerNode K). (n.children, n.last))) (last_turn.others n (λ e. r (e ∙ t.on_above)) ∙ t.added.others n f ∙ turned.others n (λ e. q (e ∙ at_is)));
      leaves = λ n. refl;
      lower_node = t.low_node;
      upper_node = t.up_node;
      separators = m_pairs ∙ ap (λ (x : Cells K ℕ × ℕ). insert_entry cmp x.0.pairs sep fresh) (sym parent_is);
      is_node = m_node;
    }

    pub done_pairs : pairs_of done ≡ pairs_of a
    done_pairs = subst (λ (n : ℕ). pairs_under b n a.root ≡ pairs_under c n a.root) height_is (node_divided cmp t.total c key l steps a.root stands b fresh low.children up.children m.children sep low.last y ys split).pairs

    done_order : leaves_of done ≡ leaves_of a
    done_order = subst (λ (n : ℕ). leaves_under b n a.root ≡ leaves_under c n a.root) height_is (same_order cmp t.total c key l steps a.root stands b fresh low.children up.children m.children sep low.last y ys split)

    pub done_sound : slab_len a.nodes ≤ slab_len done.nodes → IsSound cmp done
    done_sound more = record {
      stands = inr ((λ e. omega (arith, e)), subst (λ (n : ℕ). Stands cmp b n a.root) height_is (node_divided cmp t.total c key l steps a.root stands b fresh low.children up.children m.children sep low.last y ys split).stands);
      linked = λ h. subst (λ ns. IsLinked (leaf_links a.leaves) None ns None) (sym done_order) (t.sound.linked h);
      count = t.sound.count ∙ sym (ap length done_pairs);
    }

    pub done_way : way cmp b key a.height a.root ≡ way cmp c key a.height a.root
    done_way = subst (λ (n : ℕ). way cmp b key n a.root ≡ way cmp c key n a.root) height_is (leaf_way cmp t.total c key l steps a.root stands b fresh low.children up.children m.children sep low.last y ys split)

    pub done_room : NodeHasRoom cmp key done left
    done_room =
        let more : a.height - left ≡ over steps 1 = omega (arith, over_is steps 1) in
        let P : ℕ → Type 0 = λ k. (n : InnerNode K) × (get done.nodes k ≡ Some n) × (n.children.used < 15) in
        let found : P (way cmp b key (over steps 1) a.root) = by_side cmp t.total c key l steps a.root stands b fresh low.children up.children m.children sep low.last y ys split P
        (up, ap (get done.nodes) (sym at_is) ∙ at_at, omega (arith, t.up_used)) (low, at_fresh, omega (arith, t.low_used)) in
        let kept : P (way cmp b key (a.height - left) a.root) = subst (λ (n : ℕ). P (way cmp b key n a.root)) (sym more) found in
        record { node = kept.0; there = kept.1; room = kept.2 }
