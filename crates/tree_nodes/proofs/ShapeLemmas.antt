-- Keys between bounds, and what stays of a tree when others change.
use Rattle.std.proofs.Common.{◌≡◌, ◌≢◌, ℕ, zero, suc, ◌+◌, ◌==◌, true, false, cond, List, [], ◌∷◌, ◌++◌, Option, Some, None, refl, sym, ap, ◌∙◌, arith, append_assoc, append-nil}
use Rattle.std.specs.declared.cmp.Ordering.{Ordering}
use Rattle.std.specs.declared.cmp.Ordering.TheVariants.{Less, Equal, Greater}
use Rattle.std.specs.Ordering.{is_gt, is_lt}
use Rattle.std.specs.Cmp.{IsTotalOrder}
use Rattle.std.proofs.lemmas.Cmp.{upto}
use Rattle.std.proofs.lemmas.Bool.{eq-eqb}
use Rattle.leaf_array.specs.Cells.{Cells}
use Rattle.tree_nodes.specs.Shape.{ArenaContent, IsOver, IsUpTo, IsWithin, AreBetween, AllKeys, joined_along, joined_over, sum_along, leaf_pairs, node_joined, node_sum, pairs_under, leaves_under, leaf_times, node_times, IsTree}

module _ {K : Type 0} {cmp : K → K → Ordering} (o : IsTotalOrder cmp) where
  pub over_trans : (low : Option K) (m k : K) → IsOver cmp low m → cmp m k ≡ Less → IsOver cmp low k
  over_trans None m k a b = tt
  over_trans (Some l) m k a b = o.trans l m k a b

  pub upto_trans : (high : Option K) (m k : K) → is_gt (cmp k m) ≡ false → IsUpTo cmp high m → IsUpTo cmp high k
  upto_trans None m k a b = tt
  upto_trans (Some h) m k a b = upto o k m h a b

  pub turned : (x y : K) → cmp x y ≡ Less → cmp y x ≡ Greater
  turned x y h = rw h at (o.antisymm y x)

  turned_back : (x y : K) → cmp x y ≡ Greater → cmp y x ≡ Less
  turned_back x y h = rw h at (o.antisymm y x)

  less_of : (r : Ordering) → is_lt r ≡ true → r ≡ Less
  less_of Less h = refl
  less_of Equal h = cc
  less_of Greater h = cc

  -- a key that is not above another is below or equal to it
  not_over_of : (x y : K) (r : Ordering) → cmp x y ≡ r → is_lt r ≡ false → is_gt (cmp y x) ≡ false
  not_over_of x y Less e h = cc
  not_over_of x y Equal e h = let t : cmp y x ≡ Equal = rw e at (o.antisymm y x) in ap is_gt t
  not_over_of x y Greater e h = ap is_gt (turned_back x y e)

  pub passed : (x y : K) → is_lt (cmp x y) ≡ true → cmp x y ≡ Less
  passed x y h = less_of (cmp x y) h

  pub not_passed : (x y : K) → is_lt (cmp x y) ≡ false → is_gt (cmp y x) ≡ false
  not_passed x y h = not_over_of x y (cmp x y) refl h

  -- not above m, which is below y
  upto_less_of : (x m y : K) (r : Ordering) → cmp x m ≡ r → is_gt r ≡ false → cmp m y ≡ Less → cmp x y ≡ Less
  upto_less_of x m y Less e h l = o.trans x m y e l
  upto_less_of x m y Equal e h l = o.congr x m y e ∙ l
  upto_less_of x m y Greater e h l = cc

  pub upto_less : (x m y : K) → is_gt (cmp x m) ≡ false → cmp m y ≡ Less → cmp x y ≡ Less
  upto_less x m y h l = upto_less_of x m y (cmp x m) refl h l

  pub less_upto : (x y : K) → cmp x y ≡ Less → is_gt (cmp x y) ≡ false
  less_upto x y h = ap is_gt h

-- a number stands at itself
pub self_once : (at more : ℕ) → cond (at == at) 1 0 + more ≢ 0
self_once at more e =
    let one : ◌≡◌ {A = ℕ} (cond (at == at) 1 0) (suc zero) = ap (λ c. cond c (suc zero) zero) (eq-eqb at at refl) in
    omega (arith, one, e)

pub joined_over_append : {X : Type 0} (f : ℕ → List X) (xs ys : List ℕ) → joined_over f (xs ++ ys) ≡ joined_over f xs ++ joined_over f ys
joined_over_append f [] ys = refl
joined_over_append f (x ∷ xs) ys = rw (joined_over_append f xs ys) (simp append_assoc)

module _ {K V : Type 0} where
  pub all_append : (P : K → Type 0) (xs ys : List (K × V)) → AllKeys P xs → AllKeys P ys → AllKeys P (xs ++ ys)
  all_append P [] ys a b = b
  all_append P (x ∷ xs) ys a b = (a.0, all_append P xs ys a.1 b)

  pub all_weaken : (P Q : K → Type 0) → ((k : K) → P k → Q k) → (xs : List (K × V)) → AllKeys P xs → AllKeys Q xs
  all_weaken P Q f [] a = tt
  all_weaken P Q f (x ∷ xs) a = (f x.0 a.0, all_weaken P Q f xs a.1)

  -- the pairs of a tree are those of its leaves
  held_along : (f : ℕ → List (K × V)) (g : ℕ → List ℕ) (h : ℕ → List (K × V)) → ((at : ℕ) → f at ≡ joined_over h (g at)) → (es : List (K × ℕ)) (last : ℕ) → joined_along f es last ≡ joined_over h (joined_along g es last)
  held_along f g h each [] last = each last
  held_along f g h each (e ∷ es) last = rw (each e.1, held_along f g h each es last) (sym (joined_over_append h (g e.1) (joined_along g es last)))

  held_node : (f : ℕ → List (K × V)) (g : ℕ → List ℕ) (h : ℕ → List (K × V)) → ((at : ℕ) → f at ≡ joined_over h (g at)) → (n : Option (Cells K ℕ × ℕ)) → node_joined f n ≡ joined_over h (node_joined g n)
  held_node f g h each None = refl
  held_node f g h each (Some n) = held_along f g h each n.0.pairs n.1

  pub held_under : (a : ArenaContent K V) (height at : ℕ) → pairs_under a height at ≡ joined_over (λ n. leaf_pairs (a.leaf n)) (leaves_under a height at)
  held_under a zero at = sym (append-nil (leaf_pairs (a.leaf at)))
  held_under a (suc height) at = held_node (pairs_under a height) (leaves_under a height) (λ n. leaf_pairs (a.leaf n)) (held_under a height) (a.node at)

  -- two contents hold the same at all numbers that are counted
  pub record Agrees (a b : ArenaContent K V) (leaves nodes : ℕ → ℕ) : Type 0 where
    pub leaf : (n : ℕ) → leaves n ≢ 0 → b.leaf n ≡ a.leaf n
    pub node : (n : ℕ) → nodes n ≢ 0 → b.node n ≡ a.node n

module _ {K V : Type 0} {cmp : K → K → Ordering} (o : IsTotalOrder cmp) (a : ArenaContent K V) where
  pub bounded_along : (f : ℕ → List (K × V)) (P : ℕ → Option K → Option K → Type 0) → ((at : ℕ) (low high : Option K) → P at low high → AllKeys (IsWithin cmp low high) (f at)) → (es : List (K × ℕ)) (last : ℕ) (low high : Option K) → AreBetween cmp P es last low high → AllKeys (IsWithin cmp low high) (joined_along f es last)
  bounded_along f P each [] last low high b = each last low high b
  bounded_along f P each (e ∷ es) last low high b =
      all_append (IsWithin cmp low high) (f e.1) (joined_along f es last)
      (all_weaken (IsWithin cmp low (Some e.0)) (IsWithin cmp low high) (λ k w. (w.0, upto_trans o high e.0 k w.1 b.0.1)) _ (each e.1 low (Some e.0) b.1))
      (all_weaken (IsWithin cmp (Some e.0) high) (IsWithin cmp low high) (λ k w. (over_trans o low e.0 k b.0.0 w.0, w.1)) _ (bounded_along f P each es last (Some e.0) high b.2))

  -- the pairs of a tree lie within its bounds
  pub bounded : (height at : ℕ) (low high : Option K) → IsTree cmp a height at low high → AllKeys (IsWithin cmp low high) (pairs_under a height at)
  bounded zero at low high t = rw t.1 t.2.within
  bounded (suc height) at low high t = rw t.1 (bounded_along (pairs_under a height) (IsTree cmp a height) (bounded height) t.0.0.pairs t.0.1 low high t.3)

module _ {K V : Type 0} (cmp : K → K → Ordering) (a b : ArenaContent K V) where
  -- a tree whose numbers hold the same is the same tree
  pub record IsSame (height at : ℕ) (low high : Option K) : Type 0 where
    pub tree : IsTree cmp b height at low high
    pub pairs : pairs_under b height at ≡ pairs_under a height at
    pub order : leaves_under b height at ≡ leaves_under a height at
    pub leaves : (n : ℕ) → leaf_times b n height at ≡ leaf_times a n height at
    pub nodes : (n : ℕ) → node_times b n height at ≡ node_times a n height at

  pub record AreSame (height : ℕ) (es : List (K × ℕ)) (last : ℕ) (low high : Option K) : Type 0 where
    pub between : AreBetween cmp (IsTree cmp b height) es last low high
    pub pairs : joined_along (pairs_under b height) es last ≡ joined_along (pairs_under a height) es last
    pub order : joined_along (leaves_under b height) es last ≡ joined_along (leaves_under a height) es last
    pub leaves : (n : ℕ) → sum_along (leaf_times b n height) es last ≡ sum_along (leaf_times a n height) es last
    pub nodes : (n : ℕ) → sum_along (node_times b n height) es last ≡ sum_along (node_times a n height) es last

  abbrev pub Keeps : ℕ → Type 0
  Keeps height = (at : ℕ) (low high : Option K) → IsTree cmp a height at low high → Agrees a b (λ n. leaf_times a n height at) (λ n. node_times a n height at) → IsSame height at low high

  pub kept_along : (height : ℕ) → Keeps height → (es : List (K × ℕ)) (last : ℕ) (low high : Option K) → AreBetween cmp (IsTree cmp a height) es last low high
      → Agrees a b (λ n. sum_along (leaf_times a n height) es last) (λ n. sum_along (node_times a n height) es last) → AreSame height es last low high
  kept_along height keeps [] last low high t s =
      let k = keeps last low high t s in
      record { between = k.tree; pairs = k.pairs; order = k.order; leaves = k.leaves; nodes = k.nodes }
  kept_along height keeps (e ∷ es) last low high t s =
      let first = keeps e.1 low (Some e.0) t.1 (record { leaf = λ n h. s.leaf n (omega (arith, h)); node = λ n h. s.node n (omega (arith, h)) }) in
      let rest = kept_along height keeps es last (Some e.0) high t.2 (record { leaf = λ n h. s.leaf n (omega (arith, h)); node = λ n h. s.node n (omega (arith, h)) }) in
      record {
        between = (t.0, first.tree, rest.between);
        pairs = rw (first.pairs, rest.pairs) refl;
        order = rw (first.order, rest.order) refl;
        leaves = λ n. rw (first.leaves n, rest.leaves n) refl;
        nodes = λ n. rw (first.nodes n, rest.nodes n) refl;
      }

  pub kept : (height : ℕ) → Keeps height
  kept zero at low high t s =
      let here : b.leaf at ≡ a.leaf at = s.leaf at (λ e. self_once at 0 (omega (arith, e))) in
      record { tree = (t.0, here ∙ t.1, t.2); pairs = ap leaf_pairs here; order = refl; leaves = λ n. refl; nodes = λ n. refl }
  kept (suc height) at low high t s =
      let here : b.node at ≡ a.node at = s.node at (self_once at (node_sum (node_times a at height) (a.node at))) in
      let es = t.0.0.pairs in
      let last = t.0.1 in
      let leaves_here : (n : ℕ) → node_sum (leaf_times a n height) (a.node at) ≡ sum_along (leaf_times a n height) es last = λ n. ap (node_sum (leaf_times a n height)) t.1 in
      let nodes_here : (n : ℕ) → node_sum (node_times a n height) (a.node at) ≡ sum_along (node_times a n height) es last = λ n. ap (node_sum (node_times a n height)) t.1 in
      let rest = kept_along height (kept height) es last low high t.3 (record {
        leaf = λ n h. s.leaf n (omega (arith, h, leaves_here n));
        node = λ n h. s.node n (omega (arith, h, nodes_here n));
      }) in
      record {
        tree = (t.0, here ∙ t.1, t.2, rest.between);
        pairs = ap (node_joined (pairs_under b height)) (here ∙ t.1) ∙ rest.pairs ∙ sym (ap (node_joined (pairs_under a height)) t.1);
        order = ap (node_joined (leaves_under b height)) (here ∙ t.1) ∙ rest.order ∙ sym (ap (node_joined (leaves_under a height)) t.1);
        leaves = λ n. ap (node_sum (leaf_times b n height)) (here ∙ t.1) ∙ rest.leaves n ∙ sym (leaves_here n);
        nodes = λ n. ap (λ m. cond (at == n) 1 0 + m) (ap (node_sum (node_times b n height)) (here ∙ t.1) ∙ rest.nodes n ∙ sym (nodes_here n));
      }
