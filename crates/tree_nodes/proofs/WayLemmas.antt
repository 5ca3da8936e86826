-- Reads and writes at the leaf on the way to a key.
use Rattle.std.proofs.Common.{◌≡◌, ◌≢◌, ℕ, suc, ◌-◌, Bool, true, false, cond, not, ◌||◌, List, [], ◌∷◌, ◌++◌, Option, Some, None, refl, sym, ap, ◌∙◌, subst, arith, append_assoc}
use Rattle.std.specs.declared.cmp.Ordering.{Ordering}
use Rattle.std.specs.declared.cmp.Ordering.TheVariants.{Less}
use Rattle.std.specs.Ordering.{is_gt, is_lt, is_eq}
use Rattle.std.specs.Cmp.{IsTotalOrder}
use Rattle.std.specs.List.{filter}
use Rattle.std.specs.Map.{lookup_entry}
use Rattle.std.specs.BTreeMap.{is_at}
use Rattle.std.proofs.lemmas.List.{append-nil}
use Rattle.std.proofs.lemmas.List.Elements.{filter-append}
use Rattle.leaf_array.specs.Cells.{Cells}
use Rattle.leaf_array.specs.Edits.{below, removed, upserted}
use Rattle.leaf_array.specs.Pairs.{IsAscending, has_key}
use Rattle.tree_nodes.specs.Shape.{ArenaContent, joined_over, IsWithin, AreBetween, AllKeys, child_for, child_in, way, leaf_pairs, pairs_under, leaves_under, IsTree, Stands}
use Rattle.tree_nodes.proofs.ShapeLemmas.{all_weaken, turned, self_once}
use Rattle.tree_nodes.proofs.LeafLemmas.{filter_all, filter_none}
use Rattle.tree_nodes.proofs.FocusLemmas.{over, over_is, Focus, focus}

-- the child on the way is a tree
pub tree_below : {K : Type 0} (cmp : K → K → Ordering) (key : K) (P : ℕ → Option K → Option K → Type 0) (es : List (K × ℕ)) (last : ℕ) (low high : Option K) → AreBetween cmp P es last low high → (l : Option K) × (h : Option K) × P (child_for cmp key es last) l h
tree_below {K = K} cmp key P [] last low high t = (low, high, t)
tree_below {K = K} cmp key P (e ∷ es) last low high t =
    elim (is_lt (cmp e.0 key)) as (λ b. (l : Option K) × (h : Option K) × P (cond b (child_for cmp key es last) e.1) l h) [
      | true ↦ tree_below cmp key P es last (Some e.0) high t.2
      | false ↦ (low, Some e.0, t.1)
    ]

module _ {K V : Type 0} (cmp : K → K → Ordering) (o : IsTotalOrder cmp) (key : K) (front back : List (K × V)) (before : AllKeys (λ k. cmp k key ≡ Less) front) (behind : AllKeys (λ k. cmp key k ≡ Less) back) where
  not_in_front : (k : K) → cmp k key ≡ Less → is_at (cmp key) k ≡ false
  not_in_front k h = ap is_eq (turned o k key h)

  not_in_back : (k : K) → cmp key k ≡ Less → is_at (cmp key) k ≡ false
  not_in_back k h = ap is_eq h

  lookup_past : (xs ys : List (K × V)) → AllKeys (λ k. is_at (cmp key) k ≡ false) xs → lookup_entry (is_at (cmp key)) (xs ++ ys) ≡ lookup_entry (is_at (cmp key)) ys
  lookup_past [] ys a = refl
  lookup_past (x ∷ xs) ys a = ap (λ b. cond b (Some x) (lookup_entry (is_at (cmp key)) (xs ++ ys))) a.0 ∙ lookup_past xs ys a.1

  lookup_fore : (xs ys : List (K × V)) → AllKeys (λ k. is_at (cmp key) k ≡ false) ys → lookup_entry (is_at (cmp key)) (xs ++ ys) ≡ lookup_entry (is_at (cmp key)) xs
  lookup_fore [] [] a = refl
  lookup_fore [] (y ∷ ys) a = ap (λ b. cond b (Some y) (lookup_entry (is_at (cmp key)) ys)) a.0 ∙ lookup_fore [] ys a.1
  lookup_fore (x ∷ xs) ys a = ap (λ r. cond (is_at (cmp key) x.0) (Some x) r) (lookup_fore xs ys a)

  -- a look-up is one in the middle
  pub lookup_middle : (ps : List (K × V)) → lookup_entry (is_at (cmp key)) (front ++ (ps ++ back)) ≡ lookup_entry (is_at (cmp key)) ps
  lookup_middle ps =
      lookup_past front (ps ++ back) (all_weaken (λ k. cmp k key ≡ Less) (λ k. is_at (cmp key) k ≡ false) not_in_front front before)
      ∙ lookup_fore ps back (all_weaken (λ k. cmp key k ≡ Less) (λ k. is_at (cmp key) k ≡ false) not_in_back back behind)

  has_past : (xs ys : List (K × V)) → AllKeys (λ k. is_at (cmp key) k ≡ false) xs → has_key cmp key (xs ++ ys) ≡ has_key cmp key ys
  has_past [] ys a = refl
  has_past (x ∷ xs) ys a = ap (λ b. b || has_key cmp key (xs ++ ys)) a.0 ∙ has_past xs ys a.1

  has_fore : (xs ys : List (K × V)) → AllKeys (λ k. is_at (cmp key) k ≡ false) ys → has_key cmp key (xs ++ ys) ≡ has_key cmp key xs
  has_fore [] [] a = refl
  has_fore [] (y ∷ ys) a = ap (λ b. b || has_key cmp key ys) a.0 ∙ has_fore [] ys a.1
  has_fore (x ∷ xs) ys a = ap (λ r. is_at (cmp key) x.0 || r) (has_fore xs ys a)

  pub has_middle : (ps : List (K × V)) → has_key cmp key (front ++ (ps ++ back)) ≡ has_key cmp key ps
  has_middle ps =
      has_past front (ps ++ back) (all_weaken (λ k. cmp k key ≡ Less) (λ k. is_at (cmp key) k ≡ false) not_in_front front before)
      ∙ has_fore ps back (all_weaken (λ k. cmp key k ≡ Less) (λ k. is_at (cmp key) k ≡ false) not_in_back back behind)

  -- a filter that keeps the front or not, and the back or not
  filter_middle : (test : K → Bool) (ps : List (K × V)) → filter (λ p. test p.0) (front ++ (ps ++ back)) ≡ filter (λ p. test p.0) front ++ (filter (λ p. test p.0) ps ++ filter (λ p. test p.0) back)
  filter_middle test ps = filter-append (λ p. test p.0) front (ps ++ back) ∙ ap (λ qs. filter (λ p. test p.0) front ++ qs) (filter-append (λ p. test p.0) ps back)

  -- an upsert is one in the middle
  pub upserted_middle : (val : V) (ps : List (K × V)) → upserted cmp key val (front ++ (ps ++ back)) ≡ front ++ (upserted cmp key val ps ++ back)
  upserted_middle val ps =
      rw (
        filter_middle (λ k. is_gt (cmp key k)) ps,
        filter_middle (λ k. is_lt (cmp key k)) ps,
        filter_all (λ k. is_gt (cmp key k)) front (all_weaken (λ k. cmp k key ≡ Less) (λ k. is_gt (cmp key k) ≡ true) (λ k h. ap is_gt (turned o k key h)) front before),
        filter_none (λ k. is_gt (cmp key k)) back (all_weaken (λ k. cmp key k ≡ Less) (λ k. is_gt (cmp key k) ≡ false) (λ k h. ap is_gt h) back behind),
        filter_none (λ k. is_lt (cmp key k)) front (all_weaken (λ k. cmp k key ≡ Less) (λ k. is_lt (cmp key k) ≡ false) (λ k h. ap is_lt (turned o k key h)) front before),
        filter_all (λ k. is_lt (cmp key k)) back (all_weaken (λ k. cmp key k ≡ Less) (λ k. is_lt (cmp key k) ≡ true) (λ k h. ap is_lt h) back behind),
        append-nil (below cmp key ps),
      ) (simp append_assoc)

  -- a removal is one in the middle
  pub removed_middle : (ps : List (K × V)) → removed cmp key (front ++ (ps ++ back)) ≡ front ++ (removed cmp key ps ++ back)
  removed_middle ps =
      rw (
        filter_middle (λ k. not (is_at (cmp key) k)) ps,
        filter_all (λ k. not (is_at (cmp key) k)) front (all_weaken (λ k. cmp k key ≡ Less) (λ k. not (is_at (cmp key) k) ≡ true) (λ k h. ap not (not_in_front k h)) front before),
        filter_all (λ k. not (is_at (cmp key) k)) back (all_weaken (λ k. cmp key k ≡ Less) (λ k. not (is_at (cmp key) k) ≡ true) (λ k h. ap not (not_in_back k h)) back behind),
      ) refl

pub some_same : {X : Type 0} {x y : X} → ◌≡◌ {A = Option X} (Some x) (Some y) → x ≡ y
some_same h = cc

over_zero : (steps : ℕ) → over steps 0 ≡ steps
over_zero steps = omega (arith, over_is steps 0)

module _ {K V : Type 0} (cmp : K → K → Ordering) (o : IsTotalOrder cmp) (key : K) (a : ArenaContent K V) where
  -- the pairs around those of the leaf on the way
  pub record Around (height root at : ℕ) (c : Cells K V) : Type 0 where
    pub front : List (K × V)
    pub back : List (K × V)
    pub before : AllKeys (λ k. cmp k key ≡ Less) front
    pub behind : AllKeys (λ k. cmp key k ≡ Less) back
    pub pairs : pairs_under a height root ≡ front ++ (c.pairs ++ back)
    pub lefts : List ℕ
    pub rights : List ℕ
    pub fore : front ≡ joined_over (λ n. leaf_pairs (a.leaf n)) lefts
    pub order : leaves_under a height root ≡ lefts ++ at ∷ rights

  focus_leaf : (height root : ℕ) → IsTree cmp a (over height 0) root None None → Focus cmp a key 0 height root None None
  focus_leaf height root t = focus cmp o a key 0 height root None None t (tt, tt)

  around_over : (height root : ℕ) (c : Cells K V) → IsTree cmp a (over height 0) root None None → a.leaf (way cmp a key height root) ≡ Some c → Around (over height 0) root (way cmp a key height root) c
  around_over height root c t here =
      let f = focus_leaf height root t in
      let r = f.rebuilt a (record { leaf = λ n d. refl; node = λ n d. refl }) f.tree in
      record { front = f.front; back = f.back; before = f.before; behind = f.behind; pairs = r.pairs ∙ ap (λ m. f.front ++ leaf_pairs m ++ f.back) here ∙ simp append_assoc; lefts = f.lefts; rights = f.rights; fore = f.fore; order = r.order ∙ simp append_assoc }

  pub around : (height root : ℕ) (c : Cells K V) → IsTree cmp a height root None None → a.leaf (way cmp a key height root) ≡ Some c → Around height root (way cmp a key height root) c
  around height root c t here = subst (λ (n : ℕ). Around n root (way cmp a key height root) c) (over_zero height) (around_over height root c (subst (λ (n : ℕ). IsTree cmp a n root None None) (sym (over_zero height)) t) here)

  -- there is a leaf on the way
  pub leaf_there : (height root : ℕ) → IsTree cmp a height root None None → (c : Cells K V) × (a.leaf (way cmp a key height root) ≡ Some c)
  leaf_there height root t =
      let f = focus_leaf height root (subst (λ (n : ℕ). IsTree cmp a n root None None) (sym (over_zero height)) t) in
      (f.tree.0, f.tree.1)

  -- what a look-up finds stands in the leaf on the way
  pub lookup_way : (height root : ℕ) (c : Cells K V) → IsTree cmp a height root None None → a.leaf (way cmp a key height root) ≡ Some c → lookup_entry (is_at (cmp key)) (pairs_under a height root) ≡ lookup_entry (is_at (cmp key)) c.pairs
  lookup_way height root c t here =
      let r = around height root c t here in
      ap (λ ps. lookup_entry (is_at (cmp key)) ps) r.pairs ∙ lookup_middle cmp o key r.front r.back r.before r.behind c.pairs

  -- another array in the leaf on the way
  pub record Written (b : ArenaContent K V) (height steps root : ℕ) (c d : Cells K V) : Type 0 where
    pub front : List (K × V)
    pub back : List (K × V)
    pub before : AllKeys (λ k. cmp k key ≡ Less) front
    pub behind : AllKeys (λ k. cmp key k ≡ Less) back
    pub old : pairs_under a height root ≡ front ++ (c.pairs ++ back)
    pub new : pairs_under b height root ≡ front ++ (d.pairs ++ back)
    pub stands : Stands cmp b height root
    pub same_way : way cmp b key steps root ≡ way cmp a key steps root
    pub order : leaves_under b height root ≡ leaves_under a height root

  written_over : (b : ArenaContent K V) (height root : ℕ) (c d : Cells K V) → Stands cmp a (over height 0) root → a.leaf (way cmp a key height root) ≡ Some c → b.leaf (way cmp a key height root) ≡ Some d
      → ((n : ℕ) → n ≢ way cmp a key height root → b.leaf n ≡ a.leaf n) → ((n : ℕ) → b.node n ≡ a.node n)
      → d.frozen ≡ false → IsAscending cmp d.pairs → ((low high : Option K) → IsWithin cmp low high key → AllKeys (IsWithin cmp low high) c.pairs → AllKeys (IsWithin cmp low high) d.pairs)
      → Written b (over height 0) height root c d
  written_over b height root c d s here there others nodes thawed rising keys =
      let at = way cmp a key height root in
      let f = focus_leaf height root s.tree in
      let r = f.rebuilt a (record { leaf = λ n e. refl; node = λ n e. refl }) f.tree in
      -- the leaf stands nowhere else
      let alone : (n : ℕ) → f.leaves n ≢ 0 → n ≢ at = λ n e q. self_once at (f.leaves at - 1) (omega (arith, e, q, ap f.leaves q, s.leaf_once at, r.leaf at)) in
      let first : f.tree.0 ≡ c = some_same (sym f.tree.1 ∙ here) in
      let within : AllKeys (IsWithin cmp f.from f.upto) c.pairs = subst (λ (x : Cells K V). AllKeys (IsWithin cmp f.from f.upto) x.pairs) first f.tree.2.within in
      let u = f.rebuilt b (record { leaf = λ n e. others n (alone n e); node = λ n e. nodes n }) (d, there, record { thawed = thawed; rising = rising; within = keys f.from f.upto f.key_within within }) in
      record {
        front = f.front;
        back = f.back;
        before = f.before;
        behind = f.behind;
        old = r.pairs ∙ ap (λ m. f.front ++ leaf_pairs m ++ f.back) here ∙ simp append_assoc;
        new = u.pairs ∙ ap (λ m. f.front ++ leaf_pairs m ++ f.back) there ∙ simp append_assoc;
        stands = record {
          tree = u.tree;
          leaf_once = λ n. omega (arith, u.leaf n, r.leaf n, s.leaf_once n);
          node_once = λ n. omega (arith, u.node n, r.node n, s.node_once n);
        };
        same_way = u.same_way;
        order = u.order ∙ sym r.order;
      }

  pub written : (b : ArenaContent K V) (height root : ℕ) (c d : Cells K V) → Stands cmp a height root → a.leaf (way cmp a key height root) ≡ Some c → b.leaf (way cmp a key height root) ≡ Some d
      → ((n : ℕ) → n ≢ way cmp a key height root → b.leaf n ≡ a.leaf n) → ((n : ℕ) → b.node n ≡ a.node n)
      → d.frozen ≡ false → IsAscending cmp d.pairs → ((low high : Option K) → IsWithin cmp low high key → AllKeys (IsWithin cmp low high) c.pairs → AllKeys (IsWithin cmp low high) d.pairs)
      → Written b height height root c d
  written b height root c d s here there others nodes thawed rising keys =
      subst (λ (n : ℕ). Written b n height root c d) (over_zero height) (written_over b height root c d (subst (λ (n : ℕ). Stands cmp a n root) (sym (over_zero height)) s) here there others nodes thawed rising keys)

module _ {K V : Type 0} (cmp : K → K → Ordering) (key : K) (a : ArenaContent K V) where
  -- one step down from a node
  pub record IsStep (height steps at next : ℕ) : Type 0 where
    pub low : Option K
    pub high : Option K
    pub tree : IsTree cmp a height next low high
    pub same_way : way cmp a key steps next ≡ way cmp a key (suc steps) at

  pub step_down : (height steps at : ℕ) (n : Cells K ℕ × ℕ) (low high : Option K) → IsTree cmp a (suc height) at low high → a.node at ≡ Some n → IsStep height steps at (child_for cmp key n.0.pairs n.1)
  step_down height steps at n low high t here =
      let same : t.0 ≡ n = some_same (sym t.1 ∙ here) in
      let P : Cells K ℕ × ℕ → Type 0 = λ m. AreBetween cmp (IsTree cmp a height) m.0.pairs m.1 low high in
      let below = tree_below cmp key (IsTree cmp a height) n.0.pairs n.1 low high (subst P same t.3) in
      record { low = below.0; high = below.1; tree = below.2; same_way = sym (ap (λ m. way cmp a key steps (child_in cmp key at m)) here) }

module _ {K V : Type 0} (cmp : K → K → Ordering) (o : IsTotalOrder cmp) (key : K) (a : ArenaContent K V) where
  -- the leaf on the way is not frozen
  pub leaf_thawed : (height root : ℕ) (c : Cells K V) → IsTree cmp a height root None None → a.leaf (way cmp a key height root) ≡ Some c → c.frozen ≡ false
  leaf_thawed height root c t here =
      let f = focus_leaf cmp o key a height root (subst (λ (n : ℕ). IsTree cmp a n root None None) (sym (over_zero height)) t) in
      let first : f.tree.0 ≡ c = some_same (sym f.tree.1 ∙ here) in
      subst (λ (x : Cells K V). x.frozen ≡ false) first f.tree.2.thawed
