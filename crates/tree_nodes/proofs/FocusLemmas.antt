-- A tree around the child on the way to a key: what stands before and behind it, and what the whole is when the child changes.
use Rattle.std.proofs.Common.{◌≡◌, ℕ, zero, suc, ◌+◌, ◌==◌, true, false, cond, List, [], ◌∷◌, ◌++◌, Option, Some, None, refl, sym, ap, ◌∙◌, subst, arith, append_assoc}
use Rattle.std.specs.declared.cmp.Ordering.{Ordering}
use Rattle.std.specs.declared.cmp.Ordering.TheVariants.{Less, Greater}
use Rattle.std.specs.Ordering.{is_gt, is_lt}
use Rattle.std.specs.Cmp.{IsTotalOrder}
use Rattle.std.specs.Map.{lookup}
use Rattle.std.specs.BTreeMap.{insert_entry, is_at}
use Rattle.std.proofs.lemmas.List.{append-nil}
use Rattle.leaf_array.specs.Cells.{Cells}
use Rattle.tree_nodes.specs.Shape.{ArenaContent, IsOver, IsUpTo, IsWithin, AreBetween, AllKeys, child_for, child_in, way, joined_along, joined_over, leaf_pairs, sum_along, node_joined, node_sum, pairs_under, leaves_under, leaf_times, node_times, IsNode, IsTree}
use Rattle.tree_nodes.proofs.ShapeLemmas.{over_trans, upto_trans, turned, passed, not_passed, upto_less, all_append, all_weaken, joined_over_append, held_under, self_once, Agrees, bounded, bounded_along, IsSame, kept, kept_along}

-- so many steps above a height
abbrev pub over : ℕ → ℕ → ℕ
over zero height = height
over (suc steps) height = suc (over steps height)

pub over_is : (steps height : ℕ) → over steps height ≡ steps + height
over_is zero height = omega arith
over_is (suc steps) height = omega (arith, over_is steps height)

-- the key is below the upper bound, if there is one
abbrev pub IsUnder : {K : Type 0} → (K → K → Ordering) → Option K → K → Type 0
IsUnder cmp None k = Unit {0}
IsUnder cmp (Some high) k = cmp k high ≡ Less

-- a separator and its child in front of others; the child alone where there are none
abbrev pub in_front : {K : Type 0} → K × ℕ → Option (List (K × ℕ) × ℕ) → List (K × ℕ) × ℕ
in_front e None = ([], e.1)
in_front e (Some s) = (e ∷ s.0, s.1)

-- the children without the one on the way to a key, if there are others
abbrev pub shed : {K : Type 0} → (K → K → Ordering) → K → List (K × ℕ) → ℕ → Option (List (K × ℕ) × ℕ)
shed cmp key [] last = None
shed cmp key (e ∷ es) last = cond (is_lt (cmp e.0 key)) (Some (in_front e (shed cmp key es last))) (Some (es, last))

abbrev pub AreLeft : {K : Type 0} → (K → K → Ordering) → (ℕ → Option K → Option K → Type 0) → Option (List (K × ℕ) × ℕ) → Option K → Option K → Type 0
AreLeft cmp P None low high = Unit {0}
AreLeft cmp P (Some s) low high = AreBetween cmp P s.0 s.1 low high

abbrev pub left_joined : {K X : Type 0} → (ℕ → List X) → Option (List (K × ℕ) × ℕ) → List X
left_joined f None = []
left_joined f (Some s) = joined_along f s.0 s.1

abbrev pub left_sum : {K : Type 0} → (ℕ → ℕ) → Option (List (K × ℕ) × ℕ) → ℕ
left_sum f None = 0
left_sum f (Some s) = sum_along f s.0 s.1

module _ {K V : Type 0} (cmp : K → K → Ordering) (a : ArenaContent K V) (key : K) (height : ℕ) where
  -- what the children are when the one on the way to the key changes, and nothing else does
  pub record Again (b : ArenaContent K V) (es : List (K × ℕ)) (last : ℕ) (low high : Option K) (front back : List (K × V)) (lefts rights : List ℕ) (leaves nodes : ℕ → ℕ) : Type 0 where
    pub between : AreBetween cmp (IsTree cmp b height) es last low high
    pub pairs : joined_along (pairs_under b height) es last ≡ front ++ pairs_under b height (child_for cmp key es last) ++ back
    pub order : joined_along (leaves_under b height) es last ≡ lefts ++ leaves_under b height (child_for cmp key es last) ++ rights
    pub leaf : (n : ℕ) → sum_along (leaf_times b n height) es last ≡ leaves n + leaf_times b n height (child_for cmp key es last)
    pub node : (n : ℕ) → sum_along (node_times b n height) es last ≡ nodes n + node_times b n height (child_for cmp key es last)

  -- the same, where a new child comes before it
  pub record Parted (b : ArenaContent K V) (sep : K) (fresh : ℕ) (es : List (K × ℕ)) (last : ℕ) (low high : Option K) (front back : List (K × V)) (lefts rights : List ℕ) (leaves nodes : ℕ → ℕ) : Type 0 where
    pub child : child_for cmp key (insert_entry cmp es sep fresh) last ≡ cond (is_lt (cmp sep key)) (child_for cmp key es last) fresh
    pub between : AreBetween cmp (IsTree cmp b height) (insert_entry cmp es sep fresh) last low high
    pub pairs : joined_along (pairs_under b height) (insert_entry cmp es sep fresh) last ≡ front ++ (pairs_under b height fresh ++ pairs_under b height (child_for cmp key es last)) ++ back
    pub order : joined_along (leaves_under b height) (insert_entry cmp es sep fresh) last ≡ lefts ++ (leaves_under b height fresh ++ leaves_under b height (child_for cmp key es last)) ++ rights
    pub leaf : (n : ℕ) → sum_along (leaf_times b n height) (insert_entry cmp es sep fresh) last ≡ leaves n + (leaf_times b n height fresh + leaf_times b n height (child_for cmp key es last))
    pub node : (n : ℕ) → sum_along (node_times b n height) (insert_entry cmp es sep fresh) last ≡ nodes n + (node_times b n height fresh + node_times b n height (child_for cmp key es last))

  -- what the others are without it, when nothing else changes
  pub record Left (b : ArenaContent K V) (s : Option (List (K × ℕ) × ℕ)) (low high : Option K) (front back : List (K × V)) (lefts rights : List ℕ) (leaves nodes : ℕ → ℕ) : Type 0 where
    pub between : AreLeft cmp (IsTree cmp b height) s low high
    pub pairs : left_joined (pairs_under b height) s ≡ front ++ back
    pub order : left_joined (leaves_under b height) s ≡ lefts ++ rights
    pub leaf : (n : ℕ) → left_sum (leaf_times b n height) s ≡ leaves n
    pub node : (n : ℕ) → left_sum (node_times b n height) s ≡ nodes n

  -- the child on the way to the key, its bounds, and what stands around it
  pub record Turn (es : List (K × ℕ)) (last : ℕ) (low high : Option K) : Type 0 where
    pub from : Option K
    pub upto : Option K
    pub front : List (K × V)
    pub back : List (K × V)
    pub lefts : List ℕ
    pub rights : List ℕ
    pub fore : front ≡ joined_over (λ n. leaf_pairs (a.leaf n)) lefts
    pub leaves : ℕ → ℕ
    pub nodes : ℕ → ℕ
    pub tree : IsTree cmp a height (child_for cmp key es last) from upto
    pub key_within : IsWithin cmp from upto key
    pub inside : (k : K) → IsWithin cmp from upto k → IsWithin cmp low high k
    pub absent : (sep : K) → IsWithin cmp from upto sep → IsUnder cmp upto sep → lookup (is_at (cmp sep)) es ≡ None
    pub before : AllKeys (λ k. cmp k key ≡ Less) front
    pub behind : AllKeys (λ k. cmp key k ≡ Less) back
    pub again : (b : ArenaContent K V) → Agrees a b leaves nodes → IsTree cmp b height (child_for cmp key es last) from upto → Again b es last low high front back lefts rights leaves nodes
    pub parted : (b : ArenaContent K V) (sep : K) (fresh : ℕ) → Agrees a b leaves nodes → IsWithin cmp from upto sep → IsUnder cmp upto sep → IsTree cmp b height fresh from (Some sep) → IsTree cmp b height (child_for cmp key es last) (Some sep) upto → Parted b sep fresh es last low high front back lefts rights leaves nodes
    pub left : (b : ArenaContent K V) → Agrees a b leaves nodes → Left b (shed cmp key es last) low high front back lefts rights leaves nodes

module _ {K : Type 0} (cmp : K → K → Ordering) (o : IsTotalOrder cmp) where
  -- no separator above a bound is a key below it
  absent_above : (P : ℕ → Option K → Option K → Type 0) (es : List (K × ℕ)) (last : ℕ) (m : K) (high : Option K) (sep : K) → AreBetween cmp P es last (Some m) high → cmp sep m ≡ Less → lookup (is_at (cmp sep)) es ≡ None
  absent_above P [] last m high sep t h = refl
  absent_above P (e ∷ es) last m high sep t h =
      let far : cmp sep e.0 ≡ Less = o.trans sep m e.0 h t.0.0 in
      rw far (absent_above P es last e.0 high sep t.2 far)

module _ {K V : Type 0} (cmp : K → K → Ordering) (a : ArenaContent K V) where
  pub widened_along : (P : ℕ → Option K → Option K → Type 0) → ((at : ℕ) (low high wide_low wide_high : Option K) → ((k : K) → IsOver cmp low k → IsOver cmp wide_low k) → ((k : K) → IsUpTo cmp high k → IsUpTo cmp wide_high k) → P at low high → P at wide_low wide_high)
      → (es : List (K × ℕ)) (last : ℕ) (low high wide_low wide_high : Option K) → ((k : K) → IsOver cmp low k → IsOver cmp wide_low k) → ((k : K) → IsUpTo cmp high k → IsUpTo cmp wide_high k) → AreBetween cmp P es last low high → AreBetween cmp P es last wide_low wide_high
  widened_along P each [] last low high wide_low wide_high over upto t = each last low high wide_low wide_high over upto t
  widened_along P each (e ∷ es) last low high wide_low wide_high over upto t = (
    (over e.0 t.0.0, upto e.0 t.0.1),
    each e.1 low (Some e.0) wide_low (Some e.0) over (λ k h. h) t.1,
    widened_along P each es last (Some e.0) high (Some e.0) wide_high (λ k h. h) upto t.2,
  )

  -- a tree lies within wider bounds too
  pub widened : (height at : ℕ) (low high wide_low wide_high : Option K) → ((k : K) → IsOver cmp low k → IsOver cmp wide_low k) → ((k : K) → IsUpTo cmp high k → IsUpTo cmp wide_high k) → IsTree cmp a height at low high → IsTree cmp a height at wide_low wide_high
  widened zero at low high wide_low wide_high over upto t = (t.0, t.1, record { thawed = t.2.thawed; rising = t.2.rising; within = all_weaken (IsWithin cmp low high) (IsWithin cmp wide_low wide_high) (λ k w. (over k w.0, upto k w.1)) t.0.pairs t.2.within })
  widened (suc height) at low high wide_low wide_high over upto t = (t.0, t.1, t.2, widened_along (IsTree cmp a height) (widened height) t.0.0.pairs t.0.1 low high wide_low wide_high over upto t.3)

module _ {K V : Type 0} (cmp : K → K → Ordering) (o : IsTotalOrder cmp) (a : ArenaContent K V) (key : K) (height : ℕ) where
  turn_last : (last : ℕ) (low high : Option K) → IsTree cmp a height last low high → IsWithin cmp low high key → Turn cmp a key height [] last low high
  turn_last last low high t w = record {
    from = low;
    upto = high;
    front = [];
    back = [];
    lefts = [];
    rights = [];
    fore = refl;
    leaves = λ n. 0;
    nodes = λ n. 0;
    tree = t;
    key_within = w;
    inside = λ k v. v;
    absent = λ sep v under. refl;
    before = tt;
    behind = tt;
    again = λ b s u. record { between = u; pairs = sym (append-nil (pairs_under b height last)); order = sym (append-nil (leaves_under b height last)); leaf = λ n. omega arith; node = λ n. omega arith };
    parted = λ b sep fresh s v under lower upper. record {
      child = refl;
      between = (v, lower, upper);
      pairs = sym (append-nil (pairs_under b height fresh ++ pairs_under b height last));
      order = sym (append-nil (leaves_under b height fresh ++ leaves_under b height last));
      leaf = λ n. omega arith;
      node = λ n. omega arith;
    };
    left = λ b s. record { between = tt; pairs = refl; order = refl; leaf = λ n. refl; node = λ n. refl };
  }

  -- what is left in front of what is left behind it
  left_past : (b : ArenaContent K V) (e : K × ℕ) (s : Option (List (K × ℕ) × ℕ)) (low high : Option K) (front back : List (K × V)) (lefts rights : List ℕ) (leaves nodes : ℕ → ℕ) → IsWithin cmp low high e.0 → IsSame cmp a b height e.1 low (Some e.0) → Left cmp a key height b s (Some e.0) high front back lefts rights leaves nodes
      → Left cmp a key height b (Some (in_front e s)) low high (pairs_under a height e.1 ++ front) back (leaves_under a height e.1 ++ lefts) rights (λ n. leaf_times a n height e.1 + leaves n) (λ n. node_times a n height e.1 + nodes n)
  left_past b e None low high front back lefts rights leaves nodes w f l = record {
    between = widened cmp b height e.1 low (Some e.0) low high (λ k h. h) (λ k h. upto_trans o high e.0 k h w.1) f.tree;
    pairs = f.pairs ∙ sym (append-nil (pairs_under a height e.1)) ∙ ap (λ ps. pairs_under a height e.1 ++ ps) l.pairs ∙ simp append_assoc;
    order = f.order ∙ sym (append-nil (leaves_under a height e.1)) ∙ ap (λ ns. leaves_under a height e.1 ++ ns) l.order ∙ simp append_assoc;
    leaf = λ n. omega (arith, f.leaves n, l.leaf n);
    node = λ n. omega (arith, f.nodes n, l.node n);
  }
  left_past b e (Some s) low high front back lefts rights leaves nodes w f l = record {
    between = (w, f.tree, l.between);
    pairs = rw (f.pairs, l.pairs) (simp append_assoc);
    order = rw (f.order, l.order) (simp append_assoc);
    leaf = λ n. omega (arith, f.leaves n, l.leaf n);
    node = λ n. omega (arith, f.nodes n, l.node n);
  }

  -- the key is not above the first separator
  turn_here : (e : K × ℕ) (es : List (K × ℕ)) (last : ℕ) (low high : Option K) → AreBetween cmp (IsTree cmp a height) (e ∷ es) last low high → IsWithin cmp low high key → is_lt (cmp e.0 key) ≡ false → Turn cmp a key height (e ∷ es) last low high
  turn_here e es last low high t w h =
      let near : is_gt (cmp key e.0) ≡ false = not_passed o e.0 key h in
      let c : child_for cmp key (e ∷ es) last ≡ e.1 = ap (λ b. cond b (child_for cmp key es last) e.1) h in
      record {
        from = low;
        upto = Some e.0;
        front = [];
        back = joined_along (pairs_under a height) es last;
        lefts = [];
        rights = joined_along (leaves_under a height) es last;
        fore = refl;
        leaves = λ n. sum_along (leaf_times a n height) es last;
        nodes = λ n. sum_along (node_times a n height) es last;
        tree = rw c t.1;
        key_within = (w.0, near);
        inside = λ k v. (v.0, upto_trans o high e.0 k v.1 t.0.1);
        absent = λ sep v under. rw under (absent_above cmp o (IsTree cmp a height) es last e.0 high sep t.2 under);
        before = tt;
        behind = all_weaken (IsWithin cmp (Some e.0) high) (λ k. cmp key k ≡ Less) (λ k v. upto_less o key e.0 k near v.0) _ (bounded_along o a (pairs_under a height) (IsTree cmp a height) (bounded o a height) es last (Some e.0) high t.2);
        again = λ b s u.
            let rest = kept_along cmp a b height (kept cmp a b height) es last (Some e.0) high t.2 s in
            record {
              between = (t.0, subst (λ (n : ℕ). IsTree cmp b height n low (Some e.0)) c u, rest.between);
              pairs = rw (c, rest.pairs) refl;
              order = rw (c, rest.order) refl;
              leaf = λ n. rw (c, rest.leaves n) (omega arith);
              node = λ n. rw (c, rest.nodes n) (omega arith);
            };
        parted = λ b sep fresh s v under lower upper.
            let rest = kept_along cmp a b height (kept cmp a b height) es last (Some e.0) high t.2 s in
            record {
              child = rw (under, c) refl;
              between = rw under ((v.0, upto_trans o high e.0 sep v.1 t.0.1), lower, ((under, t.0.1), subst (λ (n : ℕ). IsTree cmp b height n (Some sep) (Some e.0)) c upper, rest.between));
              pairs = rw (under, c, rest.pairs) (simp append_assoc);
              order = rw (under, c, rest.order) (simp append_assoc);
              leaf = λ n. rw (under, c, rest.leaves n) (omega arith);
              node = λ n. rw (under, c, rest.nodes n) (omega arith);
            };
        left = λ b s.
            let rest = kept_along cmp a b height (kept cmp a b height) es last (Some e.0) high t.2 s in
            let d : shed cmp key (e ∷ es) last ≡ Some (es, last) = ap (λ b. cond b (Some (in_front e (shed cmp key es last))) (Some (es, last))) h in
            subst (λ (x : Option (List (K × ℕ) × ℕ)). Left cmp a key height b x low high [] (joined_along (pairs_under a height) es last) [] (joined_along (leaves_under a height) es last) (λ n. sum_along (leaf_times a n height) es last) (λ n. sum_along (node_times a n height) es last)) (sym d) (record {
              between = widened_along cmp b (IsTree cmp b height) (widened cmp b height) es last (Some e.0) high low high (λ k m. over_trans o low e.0 k t.0.0 m) (λ k m. m) rest.between;
              pairs = rest.pairs;
              order = rest.order;
              leaf = rest.leaves;
              node = rest.nodes;
            });
      }

  -- the key is above the first separator
  turn_past : (e : K × ℕ) (es : List (K × ℕ)) (last : ℕ) (low high : Option K) → AreBetween cmp (IsTree cmp a height) (e ∷ es) last low high → is_lt (cmp e.0 key) ≡ true → Turn cmp a key height es last (Some e.0) high → Turn cmp a key height (e ∷ es) last low high
  turn_past e es last low high t h r =
      let far : cmp e.0 key ≡ Less = passed o e.0 key h in
      let c : child_for cmp key (e ∷ es) last ≡ child_for cmp key es last = ap (λ b. cond b (child_for cmp key es last) e.1) h in
      let first : (b : ArenaContent K V) → Agrees a b (λ n. leaf_times a n height e.1 + r.leaves n) (λ n. node_times a n height e.1 + r.nodes n) → IsSame cmp a b height e.1 low (Some e.0) =
      λ b s. kept cmp a b height e.1 low (Some e.0) t.1 (record { leaf = λ n d. s.leaf n (omega (arith, d)); node = λ n d. s.node n (omega (arith, d)) }) in
      let rest : (b : ArenaContent K V) → Agrees a b (λ n. leaf_times a n height e.1 + r.leaves n) (λ n. node_times a n height e.1 + r.nodes n) → Agrees a b r.leaves r.nodes =
      λ b s. record { leaf = λ n d. s.leaf n (omega (arith, d)); node = λ n d. s.node n (omega (arith, d)) } in
      record {
        from = r.from;
        upto = r.upto;
        front = pairs_under a height e.1 ++ r.front;
        back = r.back;
        lefts = leaves_under a height e.1 ++ r.lefts;
        rights = r.rights;
        fore = rw (held_under a height e.1, r.fore) (sym (joined_over_append (λ n. leaf_pairs (a.leaf n)) (leaves_under a height e.1) r.lefts));
        leaves = λ n. leaf_times a n height e.1 + r.leaves n;
        nodes = λ n. node_times a n height e.1 + r.nodes n;
        tree = rw c r.tree;
        key_within = r.key_within;
        inside = λ k v. let w = r.inside k v in (over_trans o low e.0 k t.0.0 w.0, w.1);
        absent = λ sep v under. let turn : cmp sep e.0 ≡ Greater = turned o e.0 sep (r.inside sep v).0 in rw turn (r.absent sep v under);
        before = all_append (λ k. cmp k key ≡ Less) (pairs_under a height e.1) r.front (all_weaken (IsWithin cmp low (Some e.0)) (λ k. cmp k key ≡ Less) (λ k v. upto_less o k e.0 key v.1 far) _ (bounded o a height e.1 low (Some e.0) t.1)) r.before;
        behind = r.behind;
        again = λ b s u.
            let f = first b s in
            let n = r.again b (rest b s) (subst (λ (n : ℕ). IsTree cmp b height n r.from r.upto) c u) in
            record {
              between = (t.0, f.tree, n.between);
              pairs = rw (c, f.pairs, n.pairs) (simp append_assoc);
              order = rw (c, f.order, n.order) (simp append_assoc);
              leaf = λ m. rw (c, f.leaves m, n.leaf m) (omega arith);
              node = λ m. rw (c, f.nodes m, n.node m) (omega arith);
            };
        parted = λ b sep fresh s v under lower upper.
            let f = first b s in
            let n = r.parted b sep fresh (rest b s) v under lower (subst (λ (n : ℕ). IsTree cmp b height n (Some sep) r.upto) c upper) in
            let over : cmp e.0 sep ≡ Less = (r.inside sep v).0 in
            let turn : cmp sep e.0 ≡ Greater = turned o e.0 sep over in
            record {
              child = rw (turn, h) n.child;
              between = rw turn (t.0, f.tree, n.between);
              pairs = rw (turn, c, f.pairs, n.pairs) (simp append_assoc);
              order = rw (turn, c, f.order, n.order) (simp append_assoc);
              leaf = λ m. rw (turn, c, f.leaves m, n.leaf m) (omega arith);
              node = λ m. rw (turn, c, f.nodes m, n.node m) (omega arith);
            };
        left = λ b s.
            let d : shed cmp key (e ∷ es) last ≡ Some (in_front e (shed cmp key es last)) = ap (λ b. cond b (Some (in_front e (shed cmp key es last))) (Some (es, last))) h in
            subst (λ (x : Option (List (K × ℕ) × ℕ)). Left cmp a key height b x low high (pairs_under a height e.1 ++ r.front) r.back (leaves_under a height e.1 ++ r.lefts) r.rights (λ n. leaf_times a n height e.1 + r.leaves n) (λ n. node_times a n height e.1 + r.nodes n)) (sym d) (left_past b e (shed cmp key es last) low high r.front r.back r.lefts r.rights r.leaves r.nodes t.0 (first b s) (r.left b (rest b s)));
      }

  pub turn : (es : List (K × ℕ)) (last : ℕ) (low high : Option K) → AreBetween cmp (IsTree cmp a height) es last low high → IsWithin cmp low high key → Turn cmp a key height es last low high
  turn [] last low high t w = turn_last last low high t w
  turn (e ∷ es) last low high t w =
      (elim (is_lt (cmp e.0 key)) as (λ b. is_lt (cmp e.0 key) ≡ b → Turn cmp a key height (e ∷ es) last low high) [
        | true ↦ λ h. turn_past e es last low high t h (turn es last (Some e.0) high t.2 (passed o e.0 key h, w.1))
        | false ↦ λ h. turn_here e es last low high t w h
      ]) refl

module _ {K V : Type 0} (cmp : K → K → Ordering) (a : ArenaContent K V) (key : K) (height : ℕ) where
  -- what a tree is when what stands so many steps down on the way to the key changes, and nothing else does
  pub record Rebuilt (b : ArenaContent K V) (steps at : ℕ) (low high : Option K) (front back : List (K × V)) (lefts rights : List ℕ) (leaves nodes : ℕ → ℕ) : Type 0 where
    pub same_way : way cmp b key steps at ≡ way cmp a key steps at
    pub tree : IsTree cmp b (over steps height) at low high
    pub pairs : pairs_under b (over steps height) at ≡ front ++ pairs_under b height (way cmp a key steps at) ++ back
    pub order : leaves_under b (over steps height) at ≡ lefts ++ leaves_under b height (way cmp a key steps at) ++ rights
    pub leaf : (n : ℕ) → leaf_times b n (over steps height) at ≡ leaves n + leaf_times b n height (way cmp a key steps at)
    pub node : (n : ℕ) → node_times b n (over steps height) at ≡ nodes n + node_times b n height (way cmp a key steps at)

  -- what stands there, its bounds, and what stands around it
  pub record Focus (steps at : ℕ) (low high : Option K) : Type 0 where
    pub from : Option K
    pub upto : Option K
    pub front : List (K × V)
    pub back : List (K × V)
    pub lefts : List ℕ
    pub rights : List ℕ
    pub fore : front ≡ joined_over (λ n. leaf_pairs (a.leaf n)) lefts
    pub leaves : ℕ → ℕ
    pub nodes : ℕ → ℕ
    pub tree : IsTree cmp a height (way cmp a key steps at) from upto
    pub key_within : IsWithin cmp from upto key
    pub before : AllKeys (λ k. cmp k key ≡ Less) front
    pub behind : AllKeys (λ k. cmp key k ≡ Less) back
    pub rebuilt : (b : ArenaContent K V) → Agrees a b leaves nodes → IsTree cmp b height (way cmp a key steps at) from upto → Rebuilt b steps at low high front back lefts rights leaves nodes

module _ {K V : Type 0} (cmp : K → K → Ordering) (o : IsTotalOrder cmp) (a : ArenaContent K V) (key : K) (height : ℕ) where
  focus_here : (at : ℕ) (low high : Option K) → IsTree cmp a height at low high → IsWithin cmp low high key → Focus cmp a key height 0 at low high
  focus_here at low high t w = record {
    from = low;
    upto = high;
    front = [];
    back = [];
    lefts = [];
    rights = [];
    fore = refl;
    leaves = λ n. 0;
    nodes = λ n. 0;
    tree = t;
    key_within = w;
    before = tt;
    behind = tt;
    rebuilt = λ b s u. record {
      same_way = refl;
      tree = u;
      pairs = sym (append-nil (pairs_under b height at));
      order = sym (append-nil (leaves_under b height at));
      leaf = λ n. omega arith;
      node = λ n. omega arith;
    };
  }

  focus_below : (steps at : ℕ) (n : Cells K ℕ × ℕ) (low high : Option K) → a.node at ≡ Some n → IsNode n.0
      → (r : Turn cmp a key (over steps height) n.0.pairs n.1 low high) → Focus cmp a key height steps (child_for cmp key n.0.pairs n.1) r.from r.upto → Focus cmp a key height (suc steps) at low high
  focus_below steps at n low high here is r f =
      let c : way cmp a key (suc steps) at ≡ way cmp a key steps (child_for cmp key n.0.pairs n.1) = ap (λ m. way cmp a key steps (child_in cmp key at m)) here in
      record {
        from = f.from;
        upto = f.upto;
        front = r.front ++ f.front;
        back = f.back ++ r.back;
        lefts = r.lefts ++ f.lefts;
        rights = f.rights ++ r.rights;
        fore = rw (r.fore, f.fore) (sym (joined_over_append (λ n. leaf_pairs (a.leaf n)) r.lefts f.lefts));
        leaves = λ m. r.leaves m + f.leaves m;
        nodes = λ m. cond (at == m) 1 0 + (r.nodes m + f.nodes m);
        tree = rw c f.tree;
        key_within = f.key_within;
        before = all_append (λ k. cmp k key ≡ Less) r.front f.front r.before f.before;
        behind = all_append (λ k. cmp key k ≡ Less) f.back r.back f.behind r.behind;
        rebuilt = λ b s u.
            let still : b.node at ≡ Some n = s.node at (self_once at (r.nodes at + f.nodes at)) ∙ here in
            let v = f.rebuilt b (record { leaf = λ m d. s.leaf m (omega (arith, d)); node = λ m d. s.node m (omega (arith, d)) }) (subst (λ (m : ℕ). IsTree cmp b height m f.from f.upto) c u) in
            let w = r.again b (record { leaf = λ m d. s.leaf m (omega (arith, d)); node = λ m d. s.node m (omega (arith, d)) }) v.tree in
            record {
              same_way = ap (λ m. way cmp b key steps (child_in cmp key at m)) still ∙ v.same_way ∙ sym c;
              tree = (n, still, is, w.between);
              pairs = ap (node_joined (pairs_under b (over steps height))) still ∙ w.pairs ∙ rw (v.pairs, c) (simp append_assoc);
              order = ap (node_joined (leaves_under b (over steps height))) still ∙ w.order ∙ rw (v.order, c) (simp append_assoc);
              leaf = λ m. ap (node_sum (leaf_times b m (over steps height))) still ∙ w.leaf m ∙ rw c (omega (arith, v.leaf m));
              node = λ m. ap (λ k. cond (at == m) 1 0 + node_sum (node_times b m (over steps height)) k) still ∙ rw c (omega (arith, w.node m, v.node m));
            };
      }

  -- so many steps down on the way to a key
  pub focus : (steps at : ℕ) (low high : Option K) → IsTree cmp a (over steps height) at low high → IsWithin cmp low high key → Focus cmp a key height steps at low high
  focus zero at low high t w = focus_here at low high t w
  focus (suc steps) at low high t w =
      let r = turn cmp o a key (over steps height) t.0.0.pairs t.0.1 low high t.3 w in
      focus_below steps at t.0 low high t.1 t.2 r (focus steps (child_for cmp key t.0.0.pairs t.0.1) r.from r.upto r.tree r.key_within)
