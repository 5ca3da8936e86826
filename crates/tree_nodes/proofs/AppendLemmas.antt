-- A leaf that comes behind all others, under a root that is a node over leaves.
use Rattle.std.proofs.Common.{◌≡◌, ◌≢◌, ◌≤◌, ◌<◌, ◌⊎◌, inl, inr, ℕ, zero, suc, ◌+◌, ◌-◌, ◌==◌, true, false, cond, List, [], ◌∷◌, ◌++◌, append_assoc, append-nil, drop, length, take, Option, Some, None, refl, sym, ap, ◌∙◌, subst, arith}
use Rattle.std.proofs.Math.Seq.{take-length}
use Rattle.std.proofs.lemmas.Bool.{eq-eqb}
use Rattle.std.proofs.lemmas.Bool.Decides.{eqb_tells}
use Rattle.std.proofs.lemmas.List.{length-append}
use Rattle.std.specs.Prelude.{slice_get}
use Rattle.std.specs.Option.{option_map}
use Rattle.std.specs.declared.cmp.Ordering.{Ordering}
use Rattle.std.specs.declared.cmp.Ordering.TheVariants.{Less}
use Rattle.std.specs.Ordering.{is_le}
use Rattle.std.specs.Cmp.{IsTotalOrder}
use Rattle.std.specs.List.{list_any}
use Rattle.std.specs.Map.{keys_of}
use Rattle.std.proofs.lemmas.Map.Keys.{sorted_head, sorted_tail}
use Rattle.slab.specs.Slab.{Slab, get, with_value, Updates}
use Rattle.slab.proofs.SlabLemmas.{Updates-with_value}
use Rattle.leaf_array.specs.Cells.{Cells, lesser}
use Rattle.leaf_array.specs.Pairs.{IsAscending}
use Rattle.tree_nodes.specs.declared.leaf.Leaf.{Leaf}
use Rattle.tree_nodes.specs.declared.node.InnerNode.{InnerNode}
use Rattle.tree_nodes.specs.declared.arenas.Arenas.{Arenas}
use Rattle.tree_nodes.specs.Shape.{ArenaContent, AllKeys, IsOver, IsWithin, AreBetween, joined_along, sum_along, node_joined, node_sum, leaf_pairs, pairs_under, leaves_under, leaf_times, node_times, IsLeaf, IsNode, IsTree, Stands}
use Rattle.tree_nodes.specs.SplitPoints.{key_at}
use Rattle.tree_nodes.specs.Chain.{Links, leaf_links, times, first_or, IsLinked}
use Rattle.tree_nodes.specs.Content.{content_of, pairs_of, leaves_of, IsSound, AreSameArrays}
use Rattle.tree_nodes.specs.Depth.{IsAbove, leaf_room, is_reached, root_room, ascending_headroom}
use Rattle.tree_nodes.specs.Push.{IsFullLast, IsLastOf}
use Rattle.tree_nodes.proofs.ShapeLemmas.{over_trans, all_weaken, kept, kept_along, AreSame}
use Rattle.tree_nodes.proofs.HalfLemmas.{all_at, along_halves, sum_halves}
use Rattle.tree_nodes.proofs.SplitPointLemmas.{sides_at}
use Rattle.tree_nodes.proofs.SplitLemmas.{leaf_absent}
use Rattle.tree_nodes.proofs.GrowLemmas.{at_most_one}
use Rattle.tree_nodes.proofs.ChainLemmas.{times_append, times_counted, first_times, same_links}
use Rattle.tree_nodes.proofs.CopyLemmas.{front_less, slice_behind, slice_dropped, slice_taken, take_behind, take_next}
use Rattle.tree_nodes.proofs.ExtendLemmas.{back_rising}
use Rattle.tree_nodes.proofs.PushLemmas.{lesser_all}
use Rattle.tree_nodes.proofs.RisingLemmas.{to_keys}
use Rattle.tree_nodes.proofs.WalkLemmas.{stands_of, once, last_step}
use Rattle.tree_nodes.proofs.WayLemmas.{some_same}
use Rattle.tree_nodes.proofs.WithoutLemmas.{part_of}
use Rattle.tree_nodes.proofs.DepthLemmas.{any_at, any_fore, any_rear, both_true, reached_more, by_root, room_is, headroom_less}

sum_none : {K : Type 0} (es : List (K × ℕ)) (last : ℕ) → sum_along (λ n. 0) es last ≡ 0
sum_none [] last = refl
sum_none (e ∷ es) last = omega (arith, sum_none es last)

-- what the children hold ends with what the last one holds
joined_last : {K X : Type 0} (f : ℕ → List X) (es : List (K × ℕ)) (last : ℕ) → (front : List X) × (joined_along f es last ≡ front ++ f last)
joined_last f [] last = ([], refl)
joined_last f (e ∷ es) last = let r = joined_last f es last in (f e.1 ++ r.0, ap (λ xs. f e.1 ++ xs) r.1 ∙ sym (append_assoc (f e.1) r.0 (f last)))

-- a separator that is reached too
reached_append : {K V : Type 0} (cmp : K → K → Ordering) (pairs : List (K × V)) (es : List (K × ℕ)) (e : K × ℕ) → is_reached cmp pairs es ≡ true → list_any (λ (p : K × V). is_le (cmp e.0 p.0)) pairs ≡ true → is_reached cmp pairs (es ++ e ∷ []) ≡ true
reached_append cmp pairs [] e h there = rw there refl
reached_append cmp pairs (x ∷ es) e h there =
    let b = both_true (list_any (λ p. is_le (cmp x.0 p.0)) pairs) (is_reached cmp pairs es) h in
    rw b.0 (reached_append cmp pairs es e b.1 there)

-- a number comes behind a row
linked_behind : (f g : Links) (last fresh : ℕ) → ((n : ℕ) → n ≢ last → n ≢ fresh → g n ≡ f n) → ((p : Option ℕ) → f last ≡ Some (p, None) → g last ≡ Some (p, Some fresh)) → g fresh ≡ Some (Some last, None)
    → (before : Option ℕ) (xs : List ℕ) → ((n : ℕ) → times n (xs ++ last ∷ []) ≤ 1) → times fresh (xs ++ last ∷ []) ≡ 0 → IsLinked f before (xs ++ last ∷ []) None → IsLinked g before ((xs ++ last ∷ []) ++ fresh ∷ []) None
linked_behind f g last fresh others at_last at_fresh before [] one none l = (at_last before l.0, (at_fresh, tt))
linked_behind f g last fresh others at_last at_fresh before (x ∷ xs) one none l = (
  others x (λ e. let y = subst (λ (k : ℕ). times k (x ∷ (xs ++ last ∷ [])) ≤ 1) e (one x) in omega (arith, y, first_times x (xs ++ last ∷ []), first_times last [], times_append last xs (last ∷ []), one last, head e))
      (λ e. omega (arith, first_times x (xs ++ last ∷ []), subst (λ (k : ℕ). times k (x ∷ (xs ++ last ∷ [])) ≡ 0) (sym e) none)) ∙ l.0 ∙ ap (λ (b : Option ℕ). Some (before, b)) (first xs),
  linked_behind f g last fresh others at_last at_fresh (Some x) xs (λ n. omega (arith, one n)) (omega (arith, none)) l.1,
)
  where
    first : (ys : List ℕ) → first_or None (ys ++ last ∷ []) ≡ first_or None ((ys ++ last ∷ []) ++ fresh ∷ [])
    first [] = refl
    first (y ∷ ys) = refl

    head : x ≡ last → suc (times last (xs ++ last ∷ [])) ≡ times last (x ∷ (xs ++ last ∷ []))
    head e = sym (subst (λ (k : ℕ). times last (k ∷ (xs ++ last ∷ [])) ≡ suc (times last (xs ++ last ∷ []))) (sym e) (first_times last (xs ++ last ∷ [])))

-- what the last child of a node over leaves holds, and the separators before it
module _ {K V : Type 0} {cmp : K → K → Ordering} (o : IsTotalOrder cmp) (a : ArenaContent K V) (last : ℕ) (sep : K) (l : Cells K V) (here : a.leaf last ≡ Some l) (some : 0 < length l.pairs) (greatest : key_at l.pairs (length l.pairs - 1) ≡ Some sep) where
  its_leaf : (low : Option K) → IsTree cmp a 0 last low None → IsLeaf cmp low None l
  its_leaf low t = subst (λ (x : Cells K V). IsLeaf cmp low None x) (some_same (sym t.1 ∙ here)) t.2

  pub below : (es : List (K × ℕ)) (low : Option K) → AreBetween cmp (IsTree cmp a 0) es last low None → IsOver cmp low sep × AllKeys (λ k. cmp k sep ≡ Less) es
  below [] low t = ((all_at cmp o (IsWithin cmp low None) l.pairs (length l.pairs - 1) sep (its_leaf low t).within greatest).0, tt)
  below (e ∷ es) low t = let r = below es (Some e.0) t.2 in (over_trans o low e.0 sep t.0.0 r.0, (r.0, r.1))

  pub between_was : (root : ℕ) (old : Cells K ℕ) → a.node root ≡ Some (old, last) → Stands cmp a 1 root → AreBetween cmp (IsTree cmp a 0) old.pairs last None None
  between_was root old there s = subst (λ (x : Cells K ℕ × ℕ). AreBetween cmp (IsTree cmp a 0) x.0.pairs x.1 None None) (some_same (sym s.tree.1 ∙ there)) s.tree.3

  module _ (b : ArenaContent K V) (fresh : ℕ) (m : Cells K V) (absent : a.leaf fresh ≡ None) (there : b.leaf fresh ≡ Some m) (others : (n : ℕ) → n ≢ fresh → b.leaf n ≡ a.leaf n)
      (thawed : m.frozen ≡ false) (rising : IsAscending cmp m.pairs) (above : AllKeys (IsOver cmp (Some sep)) m.pairs) where
    not_fresh : (n : ℕ) (c : Cells K V) → a.leaf n ≡ Some c → n ≢ fresh
    not_fresh n c h e = let x : None ≡ Some c = sym absent ∙ ap a.leaf (sym e) ∙ h in cc

    -- the last leaf lies below the separator, and the new one above it
    between_more : (es : List (K × ℕ)) (low : Option K) → AreBetween cmp (IsTree cmp a 0) es last low None → AreBetween cmp (IsTree cmp b 0) (es ++ (sep, last) ∷ []) fresh low None
    between_more [] low t =
        let leaf = its_leaf low t in
        let long : suc (length l.pairs - 1) ≡ length l.pairs = omega (arith, some) in
        let s = sides_at cmp o low None sep (length l.pairs - 1) l.pairs leaf.rising leaf.within greatest tt in
        let all : take (suc (length l.pairs - 1)) l.pairs ≡ l.pairs = ap (λ (n : ℕ). take n l.pairs) long ∙ take-length l.pairs in (
          s.within,
          (l, others last (not_fresh last l here) ∙ here, record { thawed = leaf.thawed; rising = leaf.rising; within = subst (AllKeys (IsWithin cmp low (Some sep))) all s.lower }),
          (m, there, record { thawed = thawed; rising = rising; within = all_weaken (IsOver cmp (Some sep)) (IsWithin cmp (Some sep) None) (λ k h. (h, tt)) m.pairs above }),
        )
    between_more (e ∷ es) low t = (t.0, (t.1.0, others e.1 (not_fresh e.1 t.1.0 t.1.1) ∙ t.1.1, t.1.2), between_more es (Some e.0) t.2)

    module _ (root : ℕ) (old node : Cells K ℕ) (root_was : a.node root ≡ Some (old, last)) (root_is : b.node root ≡ Some (node, fresh)) (separators : node.pairs ≡ old.pairs ++ (sep, last) ∷ []) (is_node : IsNode node) (s : Stands cmp a 1 root) where
      between : AreBetween cmp (IsTree cmp a 0) old.pairs last None None
      between = between_was root old root_was s

      leaves_was : (n : ℕ) → leaf_times a n 1 root ≡ sum_along (leaf_times a n 0) old.pairs last
      leaves_was n = ap (node_sum (leaf_times a n 0)) root_was

      leaves_are : (n : ℕ) → leaf_times b n 1 root ≡ sum_along (leaf_times a n 0) old.pairs last + cond (fresh == n) 1 0
      leaves_are n = ap (node_sum (leaf_times b n 0)) root_is ∙ ap (λ es. sum_along (leaf_times b n 0) es fresh) separators ∙ sum_halves (leaf_times b n 0) old.pairs (sep, last) [] fresh

      none_fresh : (n : ℕ) → fresh ≡ n → sum_along (leaf_times a n 0) old.pairs last ≡ 0
      none_fresh n e = sym (leaves_was n) ∙ subst (λ (k : ℕ). leaf_times a k 1 root ≡ 0) e (leaf_absent cmp a fresh absent 1 root None None s.tree)

      pub stands_more : Stands cmp b 1 root
      stands_more = record {
        tree = ((node, fresh), root_is, is_node, subst (λ es. AreBetween cmp (IsTree cmp b 0) es fresh None None) (sym separators) (between_more old.pairs None between));
        leaf_once = λ n. one_leaf n (eqb_tells fresh n);
        node_once = λ n. (
            let none : node_sum (node_times b n 0) (b.node root) ≡ 0 = ap (node_sum (node_times b n 0)) root_is ∙ sum_none node.pairs fresh in
            let one : cond (root == n) 1 0 ≤ 1 = at_most_one (root == n) in
            omega (arith, none, one));
      }
        where
          one_leaf : (n : ℕ) → ((fresh == n) ≡ true × (fresh ≡ n)) ⊎ ((fresh == n) ≡ false × (fresh ≢ n)) → leaf_times b n 1 root ≤ 1
          one_leaf n (inl e) = let one : cond (fresh == n) 1 0 ≤ 1 = at_most_one (fresh == n) in omega (arith, leaves_are n, none_fresh n e.1, one)
          one_leaf n (inr e) = let none : ◌≡◌ {A = ℕ} (cond (fresh == n) 1 0) 0 = ap (λ c. cond c 1 0) e.0 in omega (arith, leaves_are n, leaves_was n, none, s.leaf_once n)

      still : AreSame cmp a b 0 old.pairs last None None
      still = kept_along cmp a b 0 (kept cmp a b 0) old.pairs last None None between (record { leaf = λ n d. others n (λ e. d (none_fresh n (sym e))); node = λ n d. absurd (d (sum_none old.pairs last)) })

      pub pairs_more : pairs_under b 1 root ≡ pairs_under a 1 root ++ m.pairs
      pairs_more =
          ap (node_joined (pairs_under b 0)) root_is ∙ ap (λ es. joined_along (pairs_under b 0) es fresh) separators ∙ along_halves (pairs_under b 0) old.pairs (sep, last) [] fresh
          ∙ ap (λ ps. ps ++ leaf_pairs (b.leaf fresh)) still.pairs ∙ ap (λ x. joined_along (pairs_under a 0) old.pairs last ++ leaf_pairs x) there
          ∙ sym (ap (λ x. node_joined (pairs_under a 0) x ++ m.pairs) root_was)

      pub order_more : leaves_under b 1 root ≡ leaves_under a 1 root ++ fresh ∷ []
      order_more =
          ap (node_joined (leaves_under b 0)) root_is ∙ ap (λ es. joined_along (leaves_under b 0) es fresh) separators ∙ along_halves (leaves_under b 0) old.pairs (sep, last) [] fresh
          ∙ sym (ap (λ x. node_joined (leaves_under a 0) x ++ fresh ∷ []) root_was)

-- what lies above the greatest key of a front
over_back : {K V : Type 0} {cmp : K → K → Ordering} (o : IsTotalOrder cmp) (sep : K) (xs ys : List (K × V)) (n : ℕ) → key_at xs n ≡ Some sep → IsAscending cmp (xs ++ ys) → AllKeys (IsOver cmp (Some sep)) ys
over_back o sep [] ys n h up = absurd (let e : None ≡ Some sep = h in cc)
over_back {cmp = cmp} o sep (x ∷ xs) ys zero h up = subst (λ k. AllKeys (λ y. cmp k y ≡ Less) ys) (some_same h) (part_of (λ y. cmp x.0 y ≡ Less) xs ys (to_keys (λ y. cmp x.0 y ≡ Less) (xs ++ ys) (sorted_head cmp x.0 (keys_of (xs ++ ys)) up))).1
over_back {cmp = cmp} o sep (x ∷ xs) ys (suc n) h up = over_back o sep xs ys n h (sorted_tail cmp x.0 (keys_of (xs ++ ys)) up)

-- the last child of a root that is a node over leaves is there
pub last_there : {K V : Type 0} (cmp : K → K → Ordering) (a : Arenas K V) (s : IsSound cmp a) → a.height ≡ 1 → (root : InnerNode K) → get a.nodes a.root ≡ Some root → get a.leaves root.last ≢ None
last_there cmp a s flat root there none =
    let stands = subst (λ (n : ℕ). Stands cmp (content_of a) n a.root) flat (stands_of cmp a s (λ e. omega (arith, flat, e))) in
    let edge = last_step cmp (content_of a) 0 a.root (root.children, root.last) None None stands.tree (ap (option_map (λ (n : InnerNode _). (n.children, n.last))) there) in
    let x : None ≡ Some edge.tree.0 = sym (ap (option_map (λ (l : Leaf _ _). l.array)) none) ∙ edge.tree.1 in
    cc

-- a leaf has room by its array
room_of : {K V : Type 0} (x : Option (Leaf K V)) (c : Cells K V) → option_map (λ (l : Leaf K V). l.array) x ≡ Some c → leaf_room x ≡ 15 - c.used
room_of None c h = absurd (let e : None ≡ Some c = h in cc)
room_of (Some l) c h = ap (λ (x : Cells _ _). 15 - x.used) (some_same h)

apart : (m n : ℕ) → m ≢ n → (m == n) ≡ false
apart m n d = split (eqb_tells m n)
  where
    split : ((m == n) ≡ true × (m ≡ n)) ⊎ ((m == n) ≡ false × (m ≢ n)) → (m == n) ≡ false
    split (inl e) = absurd (d e.1)
    split (inr e) = e.0

-- arenas with these pairs behind the others
pub record HasMore {K V : Type 0} (cmp : K → K → Ordering) (a b : Arenas K V) (ps : List (K × V)) : Type 0 where
  pub sound : IsSound cmp b
  pub pairs : pairs_of b ≡ pairs_of a ++ ps
  pub headroom : ascending_headroom cmp a ≤ ascending_headroom cmp b + length ps

module _ {K V : Type 0} (cmp : K → K → Ordering) (o : IsTotalOrder cmp) (a : Arenas K V) (s : IsSound cmp a) (last : ℕ) (sep : K) (f : IsFullLast a last sep) where
  abbrev c : ArenaContent K V
  c = content_of a

  planted : a.height ≢ 0
  planted e = omega (arith, f.flat, e)

  stands : Stands cmp c 1 a.root
  stands = subst (λ (n : ℕ). Stands cmp c n a.root) f.flat (stands_of cmp a s planted)

  root_was : c.node a.root ≡ Some (f.root.children, last)
  root_was = ap (option_map (λ (n : InnerNode K). (n.children, n.last))) f.root_there ∙ ap (λ (j : ℕ). Some (f.root.children, j)) f.last

  last_was : c.leaf last ≡ Some f.leaf.array
  last_was = ap (option_map (λ (l : Leaf K V). l.array)) f.there

  pub root_node : IsNode f.root.children
  root_node = subst (λ (x : Cells K ℕ × ℕ). IsNode x.0) (some_same (sym stands.tree.1 ∙ root_was)) stands.tree.2

  -- the greatest key is above all separators
  pub above_separators : lesser cmp sep f.root.children.pairs ≡ length f.root.children.pairs
  above_separators = lesser_all cmp sep f.root.children.pairs (below o c last sep f.leaf.array last_was f.some f.key f.root.children.pairs None (between_was o c last sep f.leaf.array last_was f.some f.key a.root f.root.children root_was stands)).1

  pairs_were : (front : List (K × V)) × (pairs_of a ≡ front ++ f.leaf.array.pairs)
  pairs_were =
      let r = joined_last (pairs_under c 0) f.root.children.pairs last in
      (r.0, ap (λ (n : ℕ). pairs_under c n a.root) f.flat ∙ ap (node_joined (pairs_under c 0)) root_was ∙ r.1 ∙ ap (λ x. r.0 ++ leaf_pairs x) last_was)

  order_was : (fore : List ℕ) × (leaves_of a ≡ fore ++ last ∷ [])
  order_was =
      let r = joined_last (leaves_under c 0) f.root.children.pairs last in
      (r.0, ap (λ (n : ℕ). leaves_under c n a.root) f.flat ∙ ap (node_joined (leaves_under c 0)) root_was ∙ r.1)

  -- the greatest key is reached
  sep_reached : list_any (λ (p : K × V). is_le (cmp sep p.0)) (pairs_of a) ≡ true
  sep_reached =
      subst (λ ps. list_any (λ (p : K × V). is_le (cmp sep p.0)) ps ≡ true) (sym pairs_were.1)
      (any_rear (λ (p : K × V). is_le (cmp sep p.0)) pairs_were.0 f.leaf.array.pairs (any_at cmp o f.leaf.array.pairs (length f.leaf.array.pairs - 1) sep f.key))

  module _ (m : Leaf K V) (is : IsLastOf m (Some last)) (up : IsAscending cmp (pairs_of a ++ m.array.pairs))
      (leaves linked : Slab (Leaf K V)) (fresh : ℕ) (added : Updates a.leaves leaves fresh (Some m)) (vacant : get a.leaves fresh ≡ None) (arrays : AreSameArrays leaves linked) (links : (n : ℕ) → leaf_links linked n ≡ option_map (λ l. (l.0, cond (last == n) (Some fresh) l.1)) (leaf_links leaves n))
      (node : InnerNode K) (is_node : IsNode node.children) (separators : node.children.pairs ≡ f.root.children.pairs ++ (sep, last) ∷ []) (node_last : node.last ≡ fresh) (len : ℕ) (counted : len ≡ a.len + length m.array.pairs) where
    abbrev pub done : Arenas K V
    done = record { leaves = linked; nodes = with_value a.nodes a.root node; root = a.root; height = a.height; len = len }

    abbrev b : ArenaContent K V
    b = content_of done

    abbrev array : Option (Leaf K V) → Option (Cells K V)
    array = option_map (λ (l : Leaf K V). l.array)

    abbrev named_by : Option (Leaf K V) → Option (Option ℕ × Option ℕ)
    named_by = option_map (λ (l : Leaf K V). (l.prev, l.next))

    turned : Updates a.nodes (with_value a.nodes a.root node) a.root (Some node)
    turned = Updates-with_value a.nodes a.root node (rw f.root_there refl)

    absent : c.leaf fresh ≡ None
    absent = ap array vacant

    last_not_fresh : last ≢ fresh
    last_not_fresh e = let x : None ≡ Some f.leaf = sym vacant ∙ ap (get a.leaves) (sym e) ∙ f.there in cc

    fresh_is : b.leaf fresh ≡ Some m.array
    fresh_is = arrays fresh ∙ ap array added.changed

    others : (n : ℕ) → n ≢ fresh → b.leaf n ≡ c.leaf n
    others n d = arrays n ∙ ap array (added.others n d)

    root_is : b.node a.root ≡ Some (node.children, fresh)
    root_is = ap (option_map (λ (n : InnerNode K). (n.children, n.last))) turned.changed ∙ ap (λ (j : ℕ). Some (node.children, j)) node_last

    above : AllKeys (IsOver cmp (Some sep)) m.array.pairs
    above =
        over_back o sep f.leaf.array.pairs m.array.pairs (length f.leaf.array.pairs - 1) f.key
        (back_rising cmp o pairs_were.0 (f.leaf.array.pairs ++ m.array.pairs) (subst (IsAscending cmp) (ap (λ ps. ps ++ m.array.pairs) pairs_were.1 ∙ append_assoc pairs_were.0 f.leaf.array.pairs m.array.pairs) up))

    rising : IsAscending cmp m.array.pairs
    rising = back_rising cmp o (pairs_of a) m.array.pairs up

    done_pairs : pairs_of done ≡ pairs_of a ++ m.array.pairs
    done_pairs =
        ap (λ (n : ℕ). pairs_under b n a.root) f.flat
        ∙ pairs_more o c last sep f.leaf.array last_was f.some f.key b fresh m.array absent fresh_is others is.thawed rising above a.root f.root.children node.children root_was root_is separators is_node stands
        ∙ sym (ap (λ (n : ℕ). pairs_under c n a.root ++ m.array.pairs) f.flat)

    done_order : leaves_of done ≡ (order_was.0 ++ last ∷ []) ++ fresh ∷ []
    done_order =
        ap (λ (n : ℕ). leaves_under b n a.root) f.flat
        ∙ order_more o c last sep f.leaf.array last_was f.some f.key b fresh m.array absent fresh_is others is.thawed rising above a.root f.root.children node.children root_was root_is separators is_node stands
        ∙ sym (ap (λ (n : ℕ). leaves_under c n a.root ++ fresh ∷ []) f.flat) ∙ ap (λ ns. ns ++ fresh ∷ []) order_was.1

    linked_others : (n : ℕ) → n ≢ last → n ≢ fresh → leaf_links linked n ≡ leaf_links a.leaves n
    linked_others n d e = let off : (last == n) ≡ false = apart last n (λ q. d (sym q)) in links n ∙ rw off (same_links (leaf_links leaves n)) ∙ ap named_by (added.others n e)

    linked_last : (p : Option ℕ) → leaf_links a.leaves last ≡ Some (p, None) → leaf_links linked last ≡ Some (p, Some fresh)
    linked_last p h =
        let was : leaf_links leaves last ≡ Some (p, None) = ap named_by (added.others last last_not_fresh) ∙ h in
        let on : (last == last) ≡ true = eq-eqb last last refl in
        links last ∙ rw (on, was) refl

    linked_fresh : leaf_links linked fresh ≡ Some (Some last, None)
    linked_fresh =
        let was : leaf_links leaves fresh ≡ Some (Some last, None) = ap named_by added.changed ∙ rw (is.prev, is.next) refl in
        let off : (last == fresh) ≡ false = apart last fresh last_not_fresh in
        links fresh ∙ rw (off, was) refl

    done_linked : IsLinked (leaf_links linked) None (leaves_of done) None
    done_linked =
        let none : times fresh (leaves_of a) ≡ 0 = times_counted c fresh a.height a.root ∙ leaf_absent cmp c fresh absent a.height a.root None None (stands_of cmp a s planted).tree in
        subst (λ ns. IsLinked (leaf_links linked) None ns None) (sym done_order)
        (linked_behind (leaf_links a.leaves) (leaf_links linked) last fresh linked_others linked_last linked_fresh None order_was.0
        (λ n. subst (λ ns. times n ns ≤ 1) order_was.1 (once cmp a s planted n))
        (subst (λ ns. times fresh ns ≡ 0) order_was.1 none)
        (subst (λ ns. IsLinked (leaf_links a.leaves) None ns None) order_was.1 (s.linked planted)))

    done_sound : IsSound cmp done
    done_sound = record {
      stands = inr (planted, subst (λ (n : ℕ). Stands cmp b n a.root) (sym f.flat) (stands_more o c last sep f.leaf.array last_was f.some f.key b fresh m.array absent fresh_is others is.thawed rising above a.root f.root.children node.children root_was root_is separators is_node stands));
      linked = λ h. done_linked;
      count = (let both : length (pairs_of a ++ m.array.pairs) ≡ length (pairs_of a) + length m.array.pairs = simp length-append refl in counted ∙ ap (λ (n : ℕ). n + length m.array.pairs) s.count ∙ sym (ap length done_pairs ∙ both));
    }

    done_headroom : ascending_headroom cmp a ≤ ascending_headroom cmp done + length m.array.pairs
    done_headroom =
        headroom_less a.height (root_room cmp a) (root_room cmp done) (length m.array.pairs) (λ flat.
        by_root cmp a (λ r. r ≤ root_room cmp done + length m.array.pairs) (omega arith) (λ t there reached.
        let same : t ≡ f.root = some_same (sym there ∙ f.root_there) in
        let es_reached : is_reached cmp (pairs_of a) f.root.children.pairs ≡ true = subst (λ (x : InnerNode K). is_reached cmp (pairs_of a) x.children.pairs ≡ true) same reached in
        let more = reached_append cmp (pairs_of a) f.root.children.pairs (sep, last) es_reached sep_reached in
        let all = reached_more cmp (pairs_of a) (pairs_of done) (λ k h. subst (λ ps. list_any (λ (p : K × V). is_le (cmp k p.0)) ps ≡ true) (sym done_pairs) (any_fore (λ p. is_le (cmp k p.0)) (pairs_of a) m.array.pairs h)) (f.root.children.pairs ++ (sep, last) ∷ []) more in
        let room = room_is cmp done node turned.changed (subst (λ es. is_reached cmp (pairs_of done) es ≡ true) (sym separators) all) in
        let long : length (f.root.children.pairs ++ (sep, last) ∷ []) ≡ length f.root.children.pairs + 1 = simp length-append refl in
        let used : node.children.used ≡ length f.root.children.pairs + 1 = is_node.packed ∙ ap length separators ∙ long in
        let packed = root_node.packed in
        let old_used : t.children.used ≡ f.root.children.used = ap (λ (x : InnerNode K). x.children.used) same in
        let none : leaf_room (get a.leaves t.last) ≡ 0 = ap (λ (x : InnerNode K). leaf_room (get a.leaves x.last)) same ∙ ap (λ (k : ℕ). leaf_room (get a.leaves k)) f.last ∙ ap leaf_room f.there ∙ ap (λ (k : ℕ). 15 - k) f.full in
        let fresh_room : leaf_room (get linked node.last) ≡ 15 - length m.array.pairs = ap (λ (k : ℕ). leaf_room (get linked k)) node_last ∙ room_of (get linked fresh) m.array fresh_is ∙ ap (λ (k : ℕ). 15 - k) is.packed in
        let least = f.room in
        omega (arith, room, used, packed, old_used, none, fresh_room, least)))

    pub done_more : HasMore cmp a done m.array.pairs
    done_more = record { sound = done_sound; pairs = done_pairs; headroom = done_headroom }

-- the first pair of a run that comes behind others
module _ {K V : Type 0} {cmp : K → K → Ordering} (o : IsTotalOrder cmp) (base ps : List (K × V)) (from count : ℕ) (p : K × V) (there : slice_get ps from ≡ Some p) where
  first_there : slice_get (drop from ps) 0 ≡ Some p
  first_there = slice_dropped from from 0 ps (omega arith) ∙ there

  pub first_above : 0 < count → IsAscending cmp (base ++ take count (drop from ps)) → IsAbove cmp p.0 base
  first_above some up =
      let front : take (length base) (base ++ take count (drop from ps)) ≡ base = take_behind base (take count (drop from ps)) (length base) 0 (omega arith) ∙ append-nil base in
      subst (IsAbove cmp p.0) front
      (front_less o (length base) (base ++ take count (drop from ps)) p up (slice_behind base (take count (drop from ps)) (length base) 0 (omega arith) ∙ slice_taken 0 count (drop from ps) some ∙ first_there))

  pub first_taken : take 1 (drop from ps) ≡ p ∷ []
  first_taken = take_next o 0 (drop from ps) p first_there
