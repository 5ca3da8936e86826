-- A leaf of the arenas that is split in two.
use Rattle.std.proofs.Common.{suc, ◌≡◌, ◌≢◌, ◌≤◌, ◌<◌, ◌⊎◌, inl, inr, ℕ, ◌+◌, ◌-◌, ◌==◌, true, false, cond, ◌&&◌, List, [], ◌∷◌, ◌++◌, length, take, drop, Option, Some, None, refl, sym, ap, ◌∙◌, subst, arith, append_assoc}
use Rattle.std.specs.Option.{option_map}
use Rattle.std.specs.declared.cmp.Ordering.{Ordering}
use Rattle.std.specs.Ordering.{is_lt}
use Rattle.std.specs.Cmp.{IsTotalOrder}
use Rattle.std.specs.Map.{lookup}
use Rattle.std.specs.BTreeMap.{insert_entry, is_at}
use Rattle.std.proofs.lemmas.List.{take-append-drop}
use Rattle.std.proofs.lemmas.Bool.Decides.{eqb_tells}
use Rattle.slab.specs.Slab.{Slab, get, with_value, Updates}
use Rattle.slab.proofs.SlabLemmas.{Updates-with_value}
use Rattle.leaf_array.specs.Cells.{Cells}
use Rattle.leaf_array.specs.Pairs.{IsAscending}
use Rattle.tree_nodes.specs.declared.leaf.Leaf.{Leaf}
use Rattle.tree_nodes.specs.declared.leaf.SplitPoint.{SplitPoint}
use Rattle.tree_nodes.specs.declared.node.InnerNode.{InnerNode}
use Rattle.tree_nodes.specs.declared.arenas.Arenas.{Arenas}
use Rattle.tree_nodes.specs.SplitPoints.{IsSplitPoint, key_at}
use Rattle.tree_nodes.specs.Shape.{ArenaContent, AllKeys, IsWithin, way, child_in, pairs_under, leaves_under, leaf_times, IsLeaf, IsNode, Stands}
use Rattle.tree_nodes.specs.Content.{content_of, pairs_of, leaves_of, leaf_on_way, IsSound, LeafHasRoom, IsLeafFull, AreSameArrays}
use Rattle.tree_nodes.specs.Chain.{leaf_links, times, IsLinked, linked_in}
use Rattle.tree_nodes.proofs.ChainLemmas.{times_counted, linked_split}
use Rattle.tree_nodes.proofs.LinkLemmas.{links_kept}
use Rattle.tree_nodes.proofs.ShapeLemmas.{self_once}
use Rattle.tree_nodes.proofs.FocusLemmas.{over, over_is}
use Rattle.tree_nodes.proofs.WayLemmas.{some_same, around}
use Rattle.tree_nodes.proofs.SplitLemmas.{around_parent, around_child, parent, child, IsSplit, divided, order_total, none_leaf}
use Rattle.tree_nodes.proofs.NodeSplitLemmas.{way_more}
use Rattle.tree_nodes.proofs.NodeLemmas.{planted, leaf_content, node_content}
use Rattle.tree_nodes.proofs.SplitPointLemmas.{Sides, sides, behind}
use Rattle.tree_nodes.proofs.HalfLemmas.{all_at}
use Rattle.tree_nodes.proofs.DepthLemmas.{any_at, any_fore, any_rear, all_middle, by_root, room_is, last_way, reached_entry, length_entry, headroom_more}
use Rattle.tree_nodes.specs.Depth.{IsAbove, KeepsHeadroom, leaf_room, is_reached, root_room}
use Rattle.std.specs.Prelude.{IfSome}
use Rattle.std.specs.List.{list_any}
use Rattle.std.specs.Ordering.{is_le}
use Rattle.std.specs.declared.cmp.Ordering.TheVariants.{Less}

array_some : {K V : Type 0} (x : Option (Leaf K V)) (c : Cells K V) → option_map (λ (l : Leaf K V). l.array) x ≡ Some c → (l : Leaf K V) × (x ≡ Some l) × (l.array ≡ c)
array_some None c h = absurd (let e : None ≡ Some c = h in cc)
array_some (Some l) c h = (l, refl, some_same h)

-- the leaf on the way to a key, where it is to be cut, and the lowest node above it
pub record IsLeafCut {K V : Type 0} (cmp : K → K → Ordering) (key : K) (a : Arenas K V) (above at : ℕ) (whole : Leaf K V) (old : InnerNode K) (split_point : SplitPoint K) : Type 0 where
  pub total : IsTotalOrder cmp
  pub sound : IsSound cmp a
  pub planted : a.height ≢ 0
  pub on_above : above ≡ way cmp (content_of a) key (a.height - 1) a.root
  pub on : at ≡ leaf_on_way cmp key a
  pub here : get a.leaves at ≡ Some whole
  pub there : get a.nodes above ≡ Some old
  pub fits : IsSplitPoint cmp key whole.array.pairs split_point
  pub rising : IsAscending cmp whole.array.pairs

-- what is left where it was cut
pub record IsLeafSplit {K V : Type 0} (cmp : K → K → Ordering) (key : K) (a b : Arenas K V) (n : ℕ) : Type 0 where
  pub sound : IsSound cmp b
  pub pairs : pairs_of b ≡ pairs_of a
  pub room : LeafHasRoom cmp key b
  pub on : n ≡ leaf_on_way cmp key b
  pub ascending : IsLeafFull cmp key a → KeepsHeadroom cmp key a b

module _ {K V : Type 0} {cmp : K → K → Ordering} {key : K} {a : Arenas K V} {above at : ℕ} {whole : Leaf K V} {old : InnerNode K} {split_point : SplitPoint K} (t : IsLeafCut cmp key a above at whole old split_point) where
  abbrev c : ArenaContent K V
  c = content_of a

  abbrev steps : ℕ
  steps = a.height - 1

  abbrev n : ℕ
  n = cond split_point.whole (length whole.array.pairs) 8

  height_is : over steps 1 ≡ a.height
  height_is = omega (arith, over_is steps 1, t.planted)

  abbrev stands : Stands cmp c (over steps 1) a.root
  stands = subst (λ (n : ℕ). Stands cmp c n a.root) (sym height_is) (planted cmp t.total key a t.sound t.planted)

  abbrev kid : ℕ
  kid = child cmp t.total c key 0 steps a.root stands

  at_is : at ≡ kid
  at_is = t.on ∙ ap (λ (n : ℕ). way cmp c key n a.root) (sym height_is) ∙ way_more cmp c key steps 1 a.root ∙ ap (child_in cmp key (parent cmp t.total c key 0 steps a.root stands)) (around_parent cmp t.total c key 0 steps a.root stands).tree.1

  leaf_there : c.leaf kid ≡ Some whole.array
  leaf_there = ap c.leaf (sym at_is) ∙ leaf_content cmp t.total key a at (Some whole) t.here

  leaf_is : (around_child cmp t.total c key 0 steps a.root stands).tree.0 ≡ whole.array
  leaf_is = some_same (sym (around_child cmp t.total c key 0 steps a.root stands).tree.1 ∙ leaf_there)

  leaf_stands : IsLeaf cmp (around_child cmp t.total c key 0 steps a.root stands).from (around_child cmp t.total c key 0 steps a.root stands).upto whole.array
  leaf_stands = subst (λ (x : Cells K V). IsLeaf cmp (around_child cmp t.total c key 0 steps a.root stands).from (around_child cmp t.total c key 0 steps a.root stands).upto x) leaf_is (around_child cmp t.total c key 0 steps a.root stands).tree.2

  pub was_thawed : whole.array.frozen ≡ false
  was_thawed = leaf_stands.thawed

  two : Sides cmp t.total (around_child cmp t.total c key 0 steps a.root stands).from (around_child cmp t.total c key 0 steps a.root stands).upto split_point.separator n whole.array.pairs
  two = sides cmp t.total key (around_child cmp t.total c key 0 steps a.root stands).from (around_child cmp t.total c key 0 steps a.root stands).upto whole.array.pairs split_point t.rising leaf_stands.within (around_child cmp t.total c key 0 steps a.root stands).key_within t.fits

  parent_is : (around_parent cmp t.total c key 0 steps a.root stands).tree.0 ≡ (old.children, old.last)
  parent_is = some_same (sym (around_parent cmp t.total c key 0 steps a.root stands).tree.1 ∙ ap c.node (sym t.on_above) ∙ node_content cmp t.total key a above (Some old) t.there)

  pub old_node : IsNode old.children
  old_node = subst (λ (x : Cells K ℕ × ℕ). IsNode x.0) parent_is (around_parent cmp t.total c key 0 steps a.root stands).tree.2

  pub absent_above : lookup (is_at (cmp split_point.separator)) old.children.pairs ≡ None
  absent_above = subst (λ (x : Cells K ℕ × ℕ). lookup (is_at (cmp split_point.separator)) x.0.pairs ≡ None) parent_is ((around_child cmp t.total c key 0 steps a.root stands).absent split_point.separator two.within two.under)

  module _ (upper low : Leaf K V) (lower_pairs : low.array.pairs ≡ take n whole.array.pairs) (upper_pairs : upper.array.pairs ≡ drop n whole.array.pairs) (lower_rising : IsAscending cmp low.array.pairs) (upper_rising : IsAscending cmp upper.array.pairs)
      (lower_thawed : low.array.frozen ≡ false) (upper_thawed : upper.array.frozen ≡ false) (lower_living : low.array.retired ≡ (split_point.whole && whole.array.retired)) (upper_living : upper.array.retired ≡ false)
      (lower_used : split_point.whole ≡ false → low.array.used ≤ 8) (upper_used : upper.array.used ≤ 7)
      (leaves linked : Slab (Leaf K V)) (fresh : ℕ) (added : Updates (with_value a.leaves at upper) leaves fresh (Some low)) (vacant : get (with_value a.leaves at upper) fresh ≡ None) (arrays : AreSameArrays leaves linked) (named : (n : ℕ) → leaf_links linked n ≡ linked_in fresh upper.prev at (leaf_links leaves) n) (upper_prev : upper.prev ≡ whole.prev) (upper_next : upper.next ≡ whole.next) (low_prev : low.prev ≡ upper.prev) (low_next : low.next ≡ Some at)
      (m : InnerNode K) (m_node : IsNode m.children) (m_pairs : m.children.pairs ≡ insert_entry cmp old.children.pairs split_point.separator fresh) (m_last : m.last ≡ old.last) where
    abbrev pub done : Arenas K V
    done = record { leaves = linked; nodes = with_value a.nodes above m; root = a.root; height = a.height; len = a.len }

    abbrev b : ArenaContent K V
    b = content_of done

    abbrev array : Option (Leaf K V) → Option (Cells K V)
    array = option_map (λ (l : Leaf K V). l.array)

    turned : Updates a.leaves (with_value a.leaves at upper) at (Some upper)
    turned = Updates-with_value a.leaves at upper (rw t.here refl)

    node_turned : Updates a.nodes (with_value a.nodes above m) above (Some m)
    node_turned = Updates-with_value a.nodes above m (rw t.there refl)

    fresh_not_at : fresh ≢ at
    fresh_not_at e = let x : None ≡ Some upper = sym vacant ∙ ap (get (with_value a.leaves at upper)) e ∙ turned.changed in cc

    absent : c.leaf fresh ≡ None
    absent = ap array (sym (turned.others fresh fresh_not_at) ∙ vacant)

    at_fresh : b.leaf fresh ≡ Some low.array
    at_fresh = arrays fresh ∙ ap array added.changed

    at_kid : b.leaf kid ≡ Some upper.array
    at_kid = ap b.leaf (sym at_is) ∙ arrays at ∙ ap array (added.others at (λ e. fresh_not_at (sym e)) ∙ turned.changed)

    others : (k : ℕ) → k ≢ fresh → k ≢ kid → b.leaf k ≡ c.leaf k
    others k f q = arrays k ∙ ap array (added.others k f ∙ turned.others k (λ e. q (e ∙ at_is)))

    split : IsSplit cmp t.total c key 0 steps a.root stands b split_point.separator fresh m.children
    split = record {
      within = two.within;
      under = two.under;
      lower = (low.array, at_fresh, record { thawed = lower_thawed; rising = lower_rising; within = subst (λ (ps : List (K × V)). AllKeys (IsWithin cmp (around_child cmp t.total c key 0 steps a.root stands).from (Some split_point.separator)) ps) (sym lower_pairs) two.lower });
      upper = (upper.array, at_kid, record { thawed = upper_thawed; rising = upper_rising; within = subst (λ (ps : List (K × V)). AllKeys (IsWithin cmp (Some split_point.separator) (around_child cmp t.total c key 0 steps a.root stands).upto) ps) (sym upper_pairs) two.upper });
      pairs = rw (at_fresh, at_kid, leaf_there, lower_pairs, upper_pairs) (take-append-drop n whole.array.pairs);
      leaf_same = λ k z e. others k (λ f. e (ap c.leaf f ∙ absent)) (λ f. self_once kid 0 (subst (λ (j : ℕ). cond (kid == j) 1 0 + 0 ≡ 0) f (omega (arith, z))));
      node_same = λ k z q e. ap (option_map (λ (n : InnerNode K). (n.children, n.last))) (node_turned.others k (λ f. q (f ∙ t.on_above)));
      leaf_moved = λ k e. moved k e (eqb_tells fresh k);
      node_moved = λ k e. refl;
      leaf_most = λ k. most k (eqb_tells fresh k) (eqb_tells kid k);
      node_most = λ k e. omega arith;
      there = ap b.node (sym t.on_above) ∙ ap (option_map (λ (n : InnerNode K). (n.children, n.last))) node_turned.changed ∙ ap (λ (j : ℕ). Some (m.children, j)) (m_last ∙ sym (ap (λ (x : Cells K ℕ × ℕ). x.1) parent_is));
      separators = m_pairs ∙ ap (λ (x : Cells K ℕ × ℕ). insert_entry cmp x.0.pairs split_point.separator fresh) (sym parent_is);
      is_node = m_node;
    }
      where
        moved : (k : ℕ) → c.leaf k ≢ None → ((fresh == k) ≡ true × (fresh ≡ k)) ⊎ ((fresh == k) ≡ false × (fresh ≢ k)) → leaf_times b k 0 fresh + leaf_times b k 0 kid ≡ leaf_times c k 0 kid
        moved k e (inl f) = absurd (e (ap c.leaf (sym f.1) ∙ absent))
        moved k e (inr f) = rw f.0 (omega arith)

        most : (k : ℕ) → ((fresh == k) ≡ true × (fresh ≡ k)) ⊎ ((fresh == k) ≡ false × (fresh ≢ k)) → ((kid == k) ≡ true × (kid ≡ k)) ⊎ ((kid == k) ≡ false × (kid ≢ k)) → leaf_times b k 0 fresh + leaf_times b k 0 kid ≤ 1
        most k (inl f) (inl q) = absurd (fresh_not_at (f.1 ∙ sym q.1 ∙ sym at_is))
        most k (inl f) (inr q) = rw (f.0, q.0) (omega arith)
        most k (inr f) (inl q) = rw (f.0, q.0) (omega arith)
        most k (inr f) (inr q) = rw (f.0, q.0) (omega arith)

    done_pairs : pairs_of done ≡ pairs_of a
    done_pairs = subst (λ (n : ℕ). pairs_under b n a.root ≡ pairs_under c n a.root) height_is (divided cmp t.total c key 0 steps a.root stands b split_point.separator fresh m.children split).pairs

    -- the leaves before and behind the one that is split
    abbrev lefts : List ℕ
    lefts = (around_parent cmp t.total c key 0 steps a.root stands).lefts ++ (around_child cmp t.total c key 0 steps a.root stands).lefts

    abbrev rights : List ℕ
    rights = (around_child cmp t.total c key 0 steps a.root stands).rights ++ (around_parent cmp t.total c key 0 steps a.root stands).rights

    old_order : leaves_of a ≡ lefts ++ at ∷ rights
    old_order = subst (λ (n : ℕ). leaves_under c n a.root ≡ lefts ++ at ∷ rights) height_is (order_total cmp t.total c key 0 steps a.root stands ∙ ap (λ (k : ℕ). (lefts ++ (k ∷ [])) ++ rights) (sym at_is) ∙ simp append_assoc)

    new_order : leaves_of done ≡ lefts ++ fresh ∷ (at ∷ rights)
    new_order = subst (λ (n : ℕ). leaves_under b n a.root ≡ lefts ++ fresh ∷ (at ∷ rights)) height_is ((divided cmp t.total c key 0 steps a.root stands b split_point.separator fresh m.children split).order ∙ ap (λ (k : ℕ). (lefts ++ (fresh ∷ (k ∷ []))) ++ rights) (sym at_is) ∙ simp append_assoc)

    counted : (k : ℕ) → times k (lefts ++ at ∷ rights) ≡ leaf_times c k a.height a.root
    counted k = ap (times k) (sym old_order) ∙ times_counted c k a.height a.root

    fresh_unused : leaf_times c fresh a.height a.root ≡ 0
    fresh_unused = subst (λ (n : ℕ). leaf_times c fresh n a.root ≡ 0) height_is (none_leaf cmp t.total c key 0 steps a.root stands fresh absent)

    once : (k : ℕ) → leaf_times c k a.height a.root ≤ 1
    once k = subst (λ (n : ℕ). leaf_times c k n a.root ≤ 1) height_is (stands.leaf_once k)

    abbrev named_by : Option (Leaf K V) → Option (Option ℕ × Option ℕ)
    named_by = option_map (λ (l : Leaf K V). (l.prev, l.next))

    done_linked : IsLinked (leaf_links linked) None (leaves_of done) None
    done_linked =
        subst (λ ns. IsLinked (leaf_links linked) None ns None) (sym new_order)
        (linked_split (leaf_links a.leaves) (leaf_links leaves) (leaf_links linked) fresh at whole.prev whole.next (ap named_by t.here)
        (λ k d. ap named_by (added.others k d) ∙ links_kept a.leaves at whole upper t.here upper_prev upper_next k)
        (ap named_by added.changed ∙ rw (low_prev, upper_prev, low_next) refl)
        (λ k. named k ∙ ap (λ (p : Option ℕ). linked_in fresh p at (leaf_links leaves) k) upper_prev)
        rights None None lefts
        (subst (λ ns. IsLinked (leaf_links a.leaves) None ns None) old_order (t.sound.linked t.planted))
        (λ k. omega (arith, counted k, once k))
        (omega (arith, counted fresh, fresh_unused))
        (λ k e. cc))

    done_sound : IsSound cmp done
    done_sound = record {
      stands = inr (t.planted, subst (λ (n : ℕ). Stands cmp b n a.root) height_is (divided cmp t.total c key 0 steps a.root stands b split_point.separator fresh m.children split).stands);
      linked = λ h. done_linked;
      count = t.sound.count ∙ sym (ap length done_pairs);
    }

    next_way : way cmp b key (over steps 1) a.root ≡ cond (is_lt (cmp split_point.separator key)) kid fresh
    next_way =
        let d = divided cmp t.total c key 0 steps a.root stands b split_point.separator fresh m.children split in
        way_more cmp b key steps 1 a.root ∙ ap (λ k. child_in cmp key k (b.node k)) d.same_way ∙ ap (child_in cmp key (parent cmp t.total c key 0 steps a.root stands)) split.there ∙ d.next

    -- where the way to the key leads
    done_on : cond (is_lt (cmp split_point.separator key)) at fresh ≡ way cmp b key a.height a.root
    done_on = ap (λ (k : ℕ). cond (is_lt (cmp split_point.separator key)) k fresh) at_is ∙ subst (λ (n : ℕ). cond (is_lt (cmp split_point.separator key)) kid fresh ≡ way cmp b key n a.root) height_is (sym next_way)

    abbrev IsRoomy : ℕ → Type 0
    IsRoomy k = (x : Cells K V) × (b.leaf k ≡ Some x) × (x.retired ≡ false) × (x.used < 15)

    halved : is_lt (cmp split_point.separator key) ≡ false → split_point.whole ≡ false
    halved h =
        (elim split_point.whole as (λ w. split_point.whole ≡ w → w ≡ false) [
          | true ↦ λ w. let l : is_lt (cmp split_point.separator key) ≡ true = ap is_lt (t.fits.beyond w) in let e : true ≡ false = sym l ∙ h in cc
          | false ↦ λ w. refl
        ]) refl

    roomy : IsRoomy (way cmp b key (over steps 1) a.root)
    roomy =
        rw next_way ((elim (is_lt (cmp split_point.separator key)) as (λ q. is_lt (cmp split_point.separator key) ≡ q → IsRoomy (cond q kid fresh)) [
          | true ↦ λ q. (upper.array, at_kid, upper_living, omega (arith, upper_used))
          | false ↦ λ q. (low.array, at_fresh, lower_living ∙ ap (λ w. w && whole.array.retired) (halved q), omega (arith, lower_used (halved q)))
        ]) refl)

    done_room : LeafHasRoom cmp key done
    done_room =
        let r : IsRoomy (way cmp b key a.height a.root) = subst (λ (n : ℕ). IsRoomy (way cmp b key n a.root)) height_is roomy in
        let l = array_some (get linked (way cmp b key a.height a.root)) r.0 r.1 in
        record { leaf = l.0; there = l.1; living = ap (λ (x : Cells K V). x.retired) l.2 ∙ r.2; room = subst (λ (x : Cells K V). x.used < 15) (sym l.2) r.3 }

    -- a pair above all others, split off a full leaf, takes no place of a flat tree
    module _ (flat : a.height ≡ 1) (over_all : IsAbove cmp key (pairs_of a)) (crowd : IsLeafFull cmp key a) (clear : split_point.whole ≡ true → upper.array.used ≡ 0) where
      root_above : above ≡ a.root
      root_above = let none : steps ≡ 0 = omega (arith, flat) in t.on_above ∙ ap (λ (k : ℕ). way cmp c key k a.root) none

      root_there : get a.nodes a.root ≡ Some old
      root_there = ap (get a.nodes) (sym root_above) ∙ t.there

      was_full : whole.array.used ≡ 15
      was_full =
          let same : crowd.leaf ≡ whole = some_same (sym crowd.there ∙ ap (get a.leaves) (sym t.on) ∙ t.here) in
          subst (λ (x : Leaf K V). x.array.used ≡ 15) same crowd.full

      -- the pairs of the leaf among all
      in_all : (front : List (K × V)) × (back : List (K × V)) × (pairs_of a ≡ front ++ (whole.array.pairs ++ back))
      in_all =
          let r = around cmp t.total key c a.height a.root whole.array (planted cmp t.total key a t.sound t.planted).tree (ap c.leaf (sym t.on) ∙ leaf_content cmp t.total key a at (Some whole) t.here) in
          (r.front, r.back, r.pairs)

      greatest : (k : K) × (key_at whole.array.pairs (length whole.array.pairs - 1) ≡ Some k)
      greatest = behind (length whole.array.pairs - 1) whole.array.pairs (omega (arith, t.fits.crowded))

      is_whole : split_point.whole ≡ true
      is_whole =
          let less : AllKeys (λ k. cmp k key ≡ Less) whole.array.pairs = all_middle (λ k. cmp k key ≡ Less) in_all.0 whole.array.pairs in_all.1 (subst (IsAbove cmp key) in_all.2 over_all) in
          let below : cmp greatest.0 key ≡ Less = all_at cmp t.total (λ k. cmp k key ≡ Less) whole.array.pairs (length whole.array.pairs - 1) greatest.0 less greatest.1 in
          (subst (λ (x : Option K). IfSome x (λ k. cmp k key ≡ Less → split_point.whole ≡ true)) greatest.1 t.fits.rising) below

      sep_reached : list_any (λ (p : K × V). is_le (cmp split_point.separator p.0)) (pairs_of a) ≡ true
      sep_reached =
          let here_any = any_at cmp t.total whole.array.pairs (length whole.array.pairs - 1) split_point.separator (t.fits.whole is_whole) in
          subst (λ ps. list_any (λ (p : K × V). is_le (cmp split_point.separator p.0)) ps ≡ true) (sym in_all.2) (any_rear (λ (p : K × V). is_le (cmp split_point.separator p.0)) in_all.0 (whole.array.pairs ++ in_all.1) (any_fore (λ (p : K × V). is_le (cmp split_point.separator p.0)) whole.array.pairs in_all.1 here_any))

      last_room : old.last ≡ at → leaf_room (get linked m.last) ≡ 15
      last_room e =
          let x = array_some (get linked at) upper.array (arrays at ∙ ap array (added.others at (λ f. fresh_not_at (sym f)) ∙ turned.changed)) in
          let used : x.0.array.used ≡ 0 = ap (λ (y : Cells K V). y.used) x.2 ∙ clear is_whole in
          ap (λ (k : ℕ). leaf_room (get linked k)) (m_last ∙ e) ∙ ap leaf_room x.1 ∙ ap (λ (k : ℕ). 15 - k) used

      done_room_kept : 0 < root_room cmp a → root_room cmp a ≤ root_room cmp done
      done_room_kept =
          by_root cmp a (λ r. 0 < r → r ≤ root_room cmp done) (λ z. absurd (omega (arith, z))) (λ top there reached some.
          let same : top ≡ old = some_same (sym there ∙ root_there) in
          let es_reached : is_reached cmp (pairs_of a) old.children.pairs ≡ true = subst (λ (x : InnerNode K). is_reached cmp (pairs_of a) x.children.pairs ≡ true) same reached in
          let last : old.last ≡ at = sym (t.on ∙ last_way cmp t.total key a old flat root_there over_all es_reached) in
          let room = room_is cmp done m (ap (get (with_value a.nodes above m)) (sym root_above) ∙ node_turned.changed)
          (subst (λ ps. is_reached cmp ps m.children.pairs ≡ true) (sym done_pairs) (subst (λ es. is_reached cmp (pairs_of a) es ≡ true) (sym m_pairs) (reached_entry cmp (pairs_of a) split_point.separator fresh sep_reached old.children.pairs es_reached))) in
          let old_used : top.children.used ≡ old.children.used = ap (λ (x : InnerNode K). x.children.used) same in
          let more : m.children.used ≡ suc old.children.used = m_node.packed ∙ ap length m_pairs ∙ length_entry cmp old.children.pairs split_point.separator fresh absent_above ∙ ap suc (sym old_node.packed) in
          let none : leaf_room (get a.leaves top.last) ≡ 0 = ap (λ (x : InnerNode K). leaf_room (get a.leaves x.last)) same ∙ ap (λ (k : ℕ). leaf_room (get a.leaves k)) last ∙ ap leaf_room t.here ∙ ap (λ (k : ℕ). 15 - k) was_full in
          omega (arith, room, more, none, old_used, some, last_room last))

    pub leaf_split : (split_point.whole ≡ true → upper.array.used ≡ 0) → IsLeafSplit cmp key a done (cond (is_lt (cmp split_point.separator key)) at fresh)
    leaf_split clear = record {
      sound = done_sound;
      pairs = done_pairs;
      room = done_room;
      on = done_on;
      ascending = λ crowd over_all some. headroom_more a.height _ _ (λ flat room. done_room_kept flat over_all crowd clear room) some;
    }
