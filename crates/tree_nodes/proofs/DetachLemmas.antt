-- A leaf of the arenas that leaves the tree.
use Rattle.std.proofs.Common.{◌≡◌, ◌≢◌, ◌≤◌, ◌<◌, ◌⊎◌, inl, inr, ℕ, suc, ◌+◌, ◌-◌, true, false, cond, List, [], ◌∷◌, ◌++◌, length, take, Option, Some, None, refl, sym, ap, ◌∙◌, subst, arith, append_assoc}
use Rattle.std.specs.Prelude.{slice_get, IfSome}
use Rattle.std.specs.List.{remove}
use Rattle.std.specs.Option.{option_map}
use Rattle.std.specs.declared.cmp.Ordering.{Ordering}
use Rattle.std.specs.Ordering.{is_lt}
use Rattle.std.specs.Cmp.{IsTotalOrder}
use Rattle.std.proofs.lemmas.Bool.{eq-eqb}
use Rattle.slab.specs.Slab.{Slab, get, with_value, Updates}
use Rattle.slab.proofs.SlabLemmas.{Updates-with_value}
use Rattle.leaf_array.specs.Cells.{Cells, lesser}
use Rattle.tree_nodes.specs.declared.leaf.Leaf.{Leaf}
use Rattle.tree_nodes.specs.declared.node.InnerNode.{InnerNode}
use Rattle.tree_nodes.specs.declared.arenas.Arenas.{Arenas}
use Rattle.tree_nodes.specs.declared.prune.Fork.{Fork}
use Rattle.tree_nodes.specs.Shape.{ArenaContent, child_for, leaf_pairs, pairs_under, leaves_under, leaf_times, node_times, IsNode, Stands}
use Rattle.tree_nodes.specs.Chain.{leaf_links, times, IsLinked, linked_out}
use Rattle.tree_nodes.specs.Content.{content_of, pairs_of, leaves_of, leaf_on_way, IsSound, AreSameArrays}
use Rattle.tree_nodes.specs.Prune.{IsSingle, IsFork, IsCutOff, IsWithout}
use Rattle.tree_nodes.specs.Walk.{pairs_in_leaf}
use Rattle.tree_nodes.proofs.FocusLemmas.{over, over_is, Turn, Focus, shed}
use Rattle.tree_nodes.proofs.WayLemmas.{some_same}
use Rattle.tree_nodes.proofs.ChainLemmas.{times_counted}
use Rattle.tree_nodes.proofs.RowLemmas.{linked_at}
use Rattle.tree_nodes.proofs.UnlinkLemmas.{linked_left}
use Rattle.tree_nodes.proofs.SplitLemmas.{node_total, order_total, pairs_total, at_parent}
use Rattle.tree_nodes.proofs.NodeLemmas.{planted, leaf_content, node_content}
use Rattle.tree_nodes.proofs.ArenaLemmas.{middle_length}
use Rattle.tree_nodes.proofs.PruneLemmas.{shed_inner, shed_outer, above, outer, inner, kid, IsPruned, Remains, remains, single_leaves, single_pairs, single_times, single_kept}

-- a list goes on behind a number, or ends there
by_place : (n m : ℕ) → n ≤ m → (n < m) ⊎ (n ≡ m)
by_place n m h = search arith

lesser_most : {K : Type 0} (cmp : K → K → Ordering) (key : K) (es : List (K × ℕ)) → lesser cmp key es ≤ length es
lesser_most cmp key [] = omega arith
lesser_most cmp key (e ∷ es) =
    elim (is_lt (cmp e.0 key)) as (λ b. cond b (suc (lesser cmp key es)) 0 ≤ suc (length es)) [
      | true ↦ omega (arith, lesser_most cmp key es)
      | false ↦ omega arith
    ]

-- what letting go of the child on the way leaves
shed_done : {K : Type 0} (cmp : K → K → Ordering) (key : K) (old new : InnerNode K) (place : ℕ) → place ≡ lesser cmp key old.children.pairs → old.children.pairs ≢ []
    → (place < length old.children.pairs → (new.children.pairs ≡ remove old.children.pairs place) × (new.last ≡ old.last))
    → (place ≡ length old.children.pairs → (new.children.pairs ≡ take (length old.children.pairs - 1) old.children.pairs) × IfSome (slice_get old.children.pairs (length old.children.pairs - 1)) (λ e. new.last ≡ e.1))
    → shed cmp key old.children.pairs old.last ≡ Some (new.children.pairs, new.last)
shed_done {K} cmp key old new place on more inside outside = split (by_place place (length old.children.pairs) (subst (λ (n : ℕ). n ≤ length old.children.pairs) (sym on) (lesser_most cmp key old.children.pairs)))
  where
    end : (es : List (K × ℕ)) → old.children.pairs ≡ es → place ≡ length es → shed cmp key es old.last ≡ Some (new.children.pairs, new.last)
    end [] e p = absurd (more e)
    end (d ∷ es) e p = last_one (slice_get (d ∷ es) (length es)) refl
      where
        after : (new.children.pairs ≡ take (length es) (d ∷ es)) × IfSome (slice_get (d ∷ es) (length es)) (λ e. new.last ≡ e.1)
        after = subst (λ (n : ℕ). (new.children.pairs ≡ take n (d ∷ es)) × IfSome (slice_get (d ∷ es) n) (λ e. new.last ≡ e.1)) (let m : suc (length es) - 1 ≡ length es = omega arith in m) (subst (λ (xs : List (K × ℕ)). place ≡ length xs → (new.children.pairs ≡ take (length xs - 1) xs) × IfSome (slice_get xs (length xs - 1)) (λ e. new.last ≡ e.1)) e outside p)

        last_one : (x : Option (K × ℕ)) → slice_get (d ∷ es) (length es) ≡ x → shed cmp key (d ∷ es) old.last ≡ Some (new.children.pairs, new.last)
        last_one None h = absurd (there es d h)
          where
            there : (ys : List (K × ℕ)) (y : K × ℕ) → slice_get (y ∷ ys) (length ys) ≢ None
            there [] y h = let i : Some y ≡ None = h in cc
            there (z ∷ ys) y h = there ys z h
        last_one (Some p_) h =
            let same : new.last ≡ p_.1 = rw h at after.1 in
            shed_outer cmp key d es old.last p_ (sym (subst (λ (xs : List (K × ℕ)). place ≡ lesser cmp key xs) e on) ∙ p) h ∙ rw (after.0, same) refl

    split : (place < length old.children.pairs) ⊎ (place ≡ length old.children.pairs) → shed cmp key old.children.pairs old.last ≡ Some (new.children.pairs, new.last)
    split (inl lt) =
        shed_inner cmp key old.children.pairs old.last (subst (λ (n : ℕ). n < length old.children.pairs) on lt)
        ∙ ap (λ (n : ℕ). Some (remove old.children.pairs n, old.last)) (sym on) ∙ sym (rw ((inside lt).0, (inside lt).1) refl)
    split (inr eq) = end old.children.pairs refl eq

-- a fork above the leaf on the way to a key, with the leaf and the node
pub record IsForkOver {K V : Type 0} (cmp : K → K → Ordering) (a : Arenas K V) (f : Fork) (leaf : ℕ) (gone : Leaf K V) (old : InnerNode K) : Type 0 where
  pub total : IsTotalOrder cmp
  pub sound : IsSound cmp a
  pub key : K
  pub fork : IsFork cmp key a f
  pub on : leaf ≡ leaf_on_way cmp key a
  pub here : get a.leaves leaf ≡ Some gone
  pub there : get a.nodes f.node ≡ Some old

module _ {K V : Type 0} {cmp : K → K → Ordering} {a : Arenas K V} {f : Fork} {leaf : ℕ} {gone : Leaf K V} {old : InnerNode K} (t : IsForkOver cmp a f leaf gone old) where
  abbrev c : ArenaContent K V
  c = content_of a

  abbrev left : ℕ
  left = f.height

  abbrev steps : ℕ
  steps = a.height - suc left

  planted_ : a.height ≢ 0
  planted_ e = omega (arith, e, t.fork.above)

  height_is : over steps (suc left) ≡ a.height
  height_is = omega (arith, over_is steps (suc left), t.fork.above)

  abbrev stands : Stands cmp c (over steps (suc left)) a.root
  stands = subst (λ (n : ℕ). Stands cmp c n a.root) (sym height_is) (planted cmp t.total t.key a t.sound planted_)

  abbrev up : Focus cmp c t.key (suc left) steps a.root None None
  up = outer cmp t.total c t.key left steps a.root stands

  abbrev at_up : Turn cmp c t.key left up.tree.0.0.pairs up.tree.0.1 up.from up.upto
  at_up = inner cmp t.total c t.key left steps a.root stands

  parent_is : up.tree.0 ≡ (old.children, old.last)
  parent_is = some_same (sym up.tree.1 ∙ ap c.node (sym t.fork.on) ∙ node_content cmp t.total t.key a f.node (Some old) t.there)

  node_is : t.fork.node ≡ old
  node_is = some_same (sym t.fork.there ∙ t.there)

  pub old_node : IsNode old.children
  old_node = subst (λ (x : Cells K ℕ × ℕ). IsNode x.0) parent_is up.tree.2

  more : old.children.pairs ≢ []
  more = subst (λ (n : InnerNode K). n.children.pairs ≢ []) node_is t.fork.more

  place_is : f.place ≡ lesser cmp t.key old.children.pairs
  place_is = subst (λ (n : InnerNode K). f.place ≡ lesser cmp t.key n.children.pairs) node_is t.fork.place

  pub place_most : f.place ≤ length old.children.pairs
  place_most = subst (λ (n : ℕ). n ≤ length old.children.pairs) (sym place_is) (lesser_most cmp t.key old.children.pairs)

  kid_is : f.child ≡ kid cmp t.total c t.key left steps a.root stands
  kid_is = subst (λ (n : InnerNode K). f.child ≡ child_for cmp t.key n.children.pairs n.last) node_is t.fork.child ∙ sym (ap (λ (x : Cells K ℕ × ℕ). child_for cmp t.key x.0.pairs x.1) parent_is)

  single : IsSingle c left (kid cmp t.total c t.key left steps a.root stands) leaf
  single = subst (λ (n : ℕ). IsSingle c left n leaf) kid_is (subst (IsSingle c left f.child) (sym t.on) t.fork.single)

  abbrev lefts : List ℕ
  lefts = up.lefts ++ at_up.lefts

  abbrev rights : List ℕ
  rights = at_up.rights ++ up.rights

  abbrev front : List (K × V)
  front = up.front ++ at_up.front

  abbrev back : List (K × V)
  back = at_up.back ++ up.back

  old_order : leaves_of a ≡ lefts ++ leaf ∷ rights
  old_order = subst (λ (n : ℕ). leaves_under c n a.root ≡ lefts ++ leaf ∷ rights) height_is (order_total cmp t.total c t.key left steps a.root stands ∙ ap (λ ns. lefts ++ ns ++ rights) (single_leaves c left (kid cmp t.total c t.key left steps a.root stands) leaf single) ∙ simp append_assoc)

  old_held : pairs_in_leaf a leaf ≡ gone.array.pairs
  old_held = ap leaf_pairs (leaf_content cmp t.total t.key a leaf (Some gone) t.here)

  old_pairs : pairs_of a ≡ front ++ (pairs_in_leaf a leaf ++ back)
  old_pairs =
      subst (λ (n : ℕ). pairs_under c n a.root ≡ front ++ (pairs_in_leaf a leaf ++ back)) height_is (
      (up.rebuilt c (record { leaf = λ n d. refl; node = λ n d. refl }) up.tree).pairs
      ∙ ap (λ ps. up.front ++ ps ++ up.back) (pairs_total cmp t.total c t.key left steps a.root stands ∙ ap (λ ps. at_up.front ++ ps ++ at_up.back) (single_pairs c left (kid cmp t.total c t.key left steps a.root stands) leaf single))
      ∙ simp append_assoc
      )

  -- its pairs are counted
  pub gone_counted : length gone.array.pairs ≤ a.len
  gone_counted = (middle_length front gone.array.pairs [] back a.len (t.sound.count ∙ ap length old_pairs ∙ ap (λ ps. length (front ++ (ps ++ back))) old_held)).0

  module _ (new : InnerNode K) (new_node : IsNode new.children)
      (inside : f.place < length old.children.pairs → (new.children.pairs ≡ remove old.children.pairs f.place) × (new.last ≡ old.last))
      (outside : f.place ≡ length old.children.pairs → (new.children.pairs ≡ take (length old.children.pairs - 1) old.children.pairs) × IfSome (slice_get old.children.pairs (length old.children.pairs - 1)) (λ e. new.last ≡ e.1))
      (linked : Slab (Leaf K V)) (arrays : AreSameArrays a.leaves linked)
      (named : (n : ℕ) → leaf_links linked n ≡ linked_out gone.prev gone.next (leaf_links a.leaves) n) (fewer : ℕ) (counted : fewer ≡ length gone.array.pairs) where
    abbrev pub done : Arenas K V
    done = record { leaves = linked; nodes = with_value a.nodes f.node new; root = a.root; height = a.height; len = a.len - fewer }

    abbrev b : ArenaContent K V
    b = content_of done

    turned : Updates a.nodes (with_value a.nodes f.node new) f.node (Some new)
    turned = Updates-with_value a.nodes f.node new (rw t.there refl)

    others : (n : ℕ) → n ≢ above cmp t.total c t.key left steps a.root stands → b.node n ≡ c.node n
    others n d = ap (option_map (λ (x : InnerNode K). (x.children, x.last))) (turned.others n (λ e. d (e ∙ t.fork.on)))

    pruned : IsPruned cmp t.total c t.key left steps a.root stands b new.children new.last
    pruned = record {
      there = ap b.node (sym t.fork.on) ∙ ap (option_map (λ (x : InnerNode K). (x.children, x.last))) turned.changed;
      rest = ap (λ (x : Cells K ℕ × ℕ). shed cmp t.key x.0.pairs x.1) parent_is ∙ shed_done cmp t.key old new f.place place_is more inside outside;
      is_node = new_node;
      leaf_same = λ n z. arrays n;
      node_same = λ n z d. others n d;
    }

    left_over : Remains cmp t.total c t.key left steps a.root stands b
    left_over = remains cmp t.total c t.key left steps a.root stands b new.children new.last pruned

    new_order : leaves_of done ≡ lefts ++ rights
    new_order = subst (λ (n : ℕ). leaves_under b n a.root ≡ lefts ++ rights) height_is left_over.order

    new_pairs : pairs_of done ≡ front ++ back
    new_pairs = subst (λ (n : ℕ). pairs_under b n a.root ≡ front ++ back) height_is left_over.pairs

    pub done_without : IsWithout leaf a done
    done_without = record { front = front; back = back; was = old_pairs; now = new_pairs; fore = lefts; rear = rights; order_was = old_order; order = new_order; kept = λ n d. ap leaf_pairs (arrays n) }

    once : (n : ℕ) → times n (lefts ++ leaf ∷ rights) ≤ 1
    once n =
        let e : times n (leaves_of a) ≡ leaf_times c n a.height a.root = times_counted c n a.height a.root in
        let m : leaf_times c n a.height a.root ≤ 1 = subst (λ (h : ℕ). leaf_times c n h a.root ≤ 1) height_is (stands.leaf_once n) in
        subst (λ ns. times n ns ≤ 1) old_order (omega (arith, e, m))

    done_linked : IsLinked (leaf_links linked) None (leaves_of done) None
    done_linked =
        let old_linked : IsLinked (leaf_links a.leaves) None (lefts ++ leaf ∷ rights) None = subst (λ ns. IsLinked (leaf_links a.leaves) None ns None) old_order (t.sound.linked planted_) in
        let names : leaf_links a.leaves leaf ≡ Some (gone.prev, gone.next) = ap (option_map (λ (l : Leaf K V). (l.prev, l.next))) t.here in
        let e : ◌≡◌ {A = Option ℕ × Option ℕ} (gone.prev, gone.next) _ = some_same (sym names ∙ linked_at (leaf_links a.leaves) None None leaf lefts rights old_linked) in
        subst (λ ns. IsLinked (leaf_links linked) None ns None) (sym new_order) (linked_left (leaf_links a.leaves) (leaf_links linked) leaf gone.prev gone.next names named None lefts rights (ap (λ (r : Option ℕ × Option ℕ). r.1) e) old_linked once (λ n q. cc))

    pub done_sound : IsSound cmp done
    done_sound = record {
      stands = inr (planted_, subst (λ (n : ℕ). Stands cmp b n a.root) height_is left_over.stands);
      linked = λ h. done_linked;
      count =
          let m = (middle_length front gone.array.pairs [] back a.len (t.sound.count ∙ ap length old_pairs ∙ ap (λ ps. length (front ++ (ps ++ back))) old_held)).1 in
          let e : length (pairs_of done) ≡ length (front ++ back) = ap length new_pairs in
          omega (arith, m, e, counted);
    }

    pub done_loose : IsCutOff done f.height f.child leaf
    done_loose =
        let k = kid cmp t.total c t.key left steps a.root stands in
        let off : (n : ℕ) → node_times c n left k ≢ 0 → b.node n ≡ c.node n = λ n d. others n (λ e. at_parent cmp t.total c t.key left steps a.root stands n e (omega (arith, d, node_total cmp t.total c t.key left steps a.root stands n, stands.node_once n))) in
        let kept = single_kept c b left k leaf single off in
        let total : (n : ℕ) → node_times b n a.height a.root + node_times c n left k ≤ 1 =
        λ n. subst (λ (h : ℕ). node_times b n h a.root + node_times c n left k ≤ 1) height_is (omega (arith, left_over.node n, stands.node_once n)) in
        subst (λ (n : ℕ). IsCutOff done f.height n leaf) (sym kid_is) (record {
          planted = planted_;
          single = kept.0;
          once = λ n. omega (arith, kept.1 n, total n);
          apart = λ n d. omega (arith, kept.1 n, total n, d);
          there = λ e. let x : None ≡ Some gone.array = sym (ap (option_map (λ (l : Leaf K V). l.array)) e) ∙ arrays leaf ∙ ap (option_map (λ (l : Leaf K V). l.array)) t.here in cc;
          out =
              let one : leaf_times c leaf left k ≡ 1 = single_times c leaf left k leaf single ∙ ap (λ q. cond q 1 0) (eq-eqb leaf leaf refl) in
              let counted : times leaf (leaves_of done) ≡ leaf_times b leaf a.height a.root = times_counted b leaf a.height a.root in
              let total : leaf_times b leaf a.height a.root + leaf_times c leaf left k ≤ 1 = subst (λ (h : ℕ). leaf_times b leaf h a.root + leaf_times c leaf left k ≤ 1) height_is (omega (arith, left_over.leaf leaf, stands.leaf_once leaf)) in
              omega (arith, counted, total, one);
        })
