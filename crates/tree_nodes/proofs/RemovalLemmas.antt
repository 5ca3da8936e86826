-- Keys outside a range of keys.
use Rattle.std.proofs.Common.{◌≡◌, ◌≢◌, ℕ, suc, Bool, true, false, cond, not, ◌&&◌, List, [], ◌∷◌, ◌++◌, length, Option, Some, None, refl, sym, ap, ◌∙◌, subst, arith, append-nil, append_assoc, ◌<◌, ◌≤◌, ◌-◌, ◌⊎◌, inl, inr}
use Rattle.std.specs.Prelude.{IfSome}
use Rattle.std.specs.Option.{option_map}
use Rattle.tree_nodes.specs.declared.leaf.Leaf.{Leaf}
use Rattle.tree_nodes.specs.SplitPoints.{key_at}
use Rattle.std.specs.declared.cmp.Ordering.{Ordering}
use Rattle.std.specs.declared.cmp.Ordering.TheVariants.{Less, Equal, Greater}
use Rattle.std.specs.Ordering.{is_lt, is_le}
use Rattle.std.specs.Cmp.{IsTotalOrder}
use Rattle.std.specs.List.{filter}
use Rattle.std.specs.declared.ops.Bound.{Bound}
use Rattle.std.specs.declared.ops.Bound.TheVariants.{Included, Excluded, Unbounded}
use Rattle.std.specs.BTreeMap.Range.{range_contains, is_from_start, is_past_end}
use Rattle.std.specs.Map.{keys_of}
use Rattle.std.proofs.lemmas.Map.Keys.{sorted_head, sorted_tail}
use Rattle.leaf_array.specs.Pairs.{IsAscending}
use Rattle.tree_nodes.specs.Shape.{AllKeys, joined_over, way, leaf_pairs, pairs_under, Stands}
use Rattle.tree_nodes.specs.Chain.{leaf_links, times, first_or, IsLinked}
use Rattle.tree_nodes.specs.Content.{content_of, pairs_of, leaves_of, HasNoTree, IsSound}
use Rattle.tree_nodes.specs.Walk.{pairs_in_leaf, starts_at, IsOwnLeaf, IsPassed}
use Rattle.tree_nodes.specs.declared.arenas.Arenas.{Arenas}
use Rattle.tree_nodes.proofs.ShapeLemmas.{all_append, all_weaken, joined_over_append}
use Rattle.tree_nodes.proofs.LeafLemmas.{filter_all}
use Rattle.tree_nodes.proofs.RisingLemmas.{to_keys}
use Rattle.tree_nodes.proofs.WalkLemmas.{all_held, held_is, once, stands_of, leaf_around}
use Rattle.tree_nodes.proofs.WayLemmas.{some_same, around, leaf_there}
use Rattle.tree_nodes.proofs.ChainLemmas.{times_append, first_times}
use Rattle.tree_nodes.proofs.RowLemmas.{parting, before_parted, linked_at, last_or}
use Rattle.tree_nodes.proofs.InsertionPointLemmas.{bound_at, before_bound}
use Rattle.tree_nodes.proofs.SpotLemmas.{rising_of}
use Rattle.tree_nodes.proofs.ArenaLemmas.{with_leaf}
use Rattle.tree_nodes.proofs.ThinLemmas.{IsThinned, thin_order, thin_fore, thin_here, thin_pairs}

module _ {K : Type 0} (cmp : K → K → Ordering) (lower upper : Bound K) where
  -- the key lies outside the range
  abbrev pub IsOutside : K → Type 0
  IsOutside k = range_contains cmp lower upper k ≡ false

  pub before_outside : (k : K) → is_from_start cmp lower k ≡ false → IsOutside k
  before_outside k h = ap (λ b. b && not (is_past_end cmp upper k)) h

  pub past_outside : (k : K) → is_past_end cmp upper k ≡ true → IsOutside k
  past_outside k h = (elim (is_from_start cmp lower k) as (λ b. (b && not (is_past_end cmp upper k)) ≡ false) [
    | true ↦ ap not h
    | false ↦ refl
  ])

  -- what a filter leaves lies outside
  pub left_outside : {V : Type 0} (ps : List (K × V)) → AllKeys IsOutside (filter (λ p. not (range_contains cmp lower upper p.0)) ps)
  left_outside [] = tt
  left_outside (p ∷ ps) =
      (elim (range_contains cmp lower upper p.0) as (λ b. range_contains cmp lower upper p.0 ≡ b → AllKeys IsOutside (cond (not b) (p ∷ filter (λ p. not (range_contains cmp lower upper p.0)) ps) (filter (λ p. not (range_contains cmp lower upper p.0)) ps))) [
        | true ↦ λ e. left_outside ps
        | false ↦ λ e. (e, left_outside ps)
      ]) refl

  -- where all leaves are passed, the filter has nothing to do
  pub all_passed : {V : Type 0} (a : Arenas K V) → IsPassed IsOutside a None → filter (λ p. not (range_contains cmp lower upper p.0)) (pairs_of a) ≡ pairs_of a
  all_passed a p =
      filter_all (λ k. not (range_contains cmp lower upper k)) (pairs_of a)
      (all_weaken IsOutside (λ k. not (range_contains cmp lower upper k) ≡ true) (λ k h. ap not h) (pairs_of a)
      (subst (AllKeys IsOutside) (sym (all_held a ∙ ap (joined_over (pairs_in_leaf a)) (p.all ∙ ap (λ ns. p.fore ++ ns) (none_left p.rear p.first) ∙ append-nil p.fore))) p.keys))
    where
      none_left : (ns : List ℕ) → None ≡ first_or None ns → ns ≡ []
      none_left [] e = refl
      none_left (n ∷ ns) e = absurd (let i : None ≡ Some n = e in cc)

module _ {K : Type 0} {cmp : K → K → Ordering} (o : IsTotalOrder cmp) where
  pub past_trans : (b : Bound K) (p k : K) → is_past_end cmp b p ≡ true → cmp p k ≡ Less → is_past_end cmp b k ≡ true
  past_trans (Included h) p k e l = lt_of h p k (cmp h p) refl e l
    where
      lt_of : (h p k : K) (r : Ordering) → cmp h p ≡ r → is_lt r ≡ true → cmp p k ≡ Less → is_lt (cmp h k) ≡ true
      lt_of h p k Less e t l = ap is_lt (o.trans h p k e l)
      lt_of h p k Equal e t l = cc
      lt_of h p k Greater e t l = cc
  past_trans (Excluded h) p k e l = le_of h p k (cmp h p) refl e l
    where
      le_of : (h p k : K) (r : Ordering) → cmp h p ≡ r → is_le r ≡ true → cmp p k ≡ Less → is_le (cmp h k) ≡ true
      le_of h p k Less e t l = ap is_le (o.trans h p k e l)
      le_of h p k Equal e t l = ap is_le (o.congr h p k e ∙ l)
      le_of h p k Greater e t l = cc
  past_trans Unbounded p k e l = cc

module _ {K V : Type 0} {cmp : K → K → Ordering} (o : IsTotalOrder cmp) (lower upper : Bound K) where
  -- all that comes behind a pair past the end lies past it
  pub behind_outside : (front : List (K × V)) (p : K × V) (back : List (K × V)) → IsAscending cmp (front ++ p ∷ back) → is_past_end cmp upper p.0 ≡ true → AllKeys (IsOutside cmp lower upper) back
  behind_outside [] p back up e =
      all_weaken (λ k. cmp p.0 k ≡ Less) (IsOutside cmp lower upper) (λ k l. past_outside cmp lower upper k (past_trans o upper p.0 k e l)) back
      (to_keys (λ k. cmp p.0 k ≡ Less) back (sorted_head cmp p.0 (keys_of back) up))
  behind_outside (q ∷ front) p back up e = behind_outside front p back (sorted_tail cmp q.0 (keys_of (front ++ p ∷ back)) up) e

pub passed_less : {K V : Type 0} (P Q : K → Type 0) → ((k : K) → P k → Q k) → (a : Arenas K V) (x : Option ℕ) → IsPassed P a x → IsPassed Q a x
passed_less P Q f a x p = record { fore = p.fore; rear = p.rear; all = p.all; first = p.first; keys = all_weaken P Q f (joined_over (pairs_in_leaf a) p.fore) p.keys }

pub filtered_length : {X : Type 0} (test : X → Bool) (xs : List X) → length (filter test xs) ≤ length xs
filtered_length test [] = omega arith
filtered_length test (x ∷ xs) =
    elim (test x) as (λ b. length (cond b (x ∷ filter test xs) (filter test xs)) ≤ suc (length xs)) [
      | true ↦ omega (arith, filtered_length test xs)
      | false ↦ omega (arith, filtered_length test xs)
    ]

key_behind : {K V : Type 0} (p : K × V) (ps : List (K × V)) (n : ℕ) → key_at (p ∷ ps) (suc n) ≡ key_at ps n
key_behind p ps n = refl

-- a list that isn't empty has a last element
last_split : {K V : Type 0} (ps : List (K × V)) → 0 < length ps → (front : List (K × V)) × (p : K × V) × (ps ≡ front ++ p ∷ []) × (key_at ps (length ps - 1) ≡ Some p.0)
last_split [] h = absurd (omega (arith, h))
last_split (p ∷ []) h = ([], p, refl, refl)
last_split (p ∷ (q ∷ ps)) h =
    let r = last_split (q ∷ ps) (omega arith) in
    let later : length (p ∷ (q ∷ ps)) - 1 ≡ suc (length (q ∷ ps) - 1) = omega arith in
    (p ∷ r.0, r.1, ap (λ xs. p ∷ xs) r.2, ap (key_at (p ∷ (q ∷ ps))) later ∙ key_behind p (q ∷ ps) (length (q ∷ ps) - 1) ∙ r.3)

pub first_split : (n : ℕ) (ns : List ℕ) → Some n ≡ first_or None ns → (ms : List ℕ) × (ns ≡ n ∷ ms)
first_split n [] e = absurd (let i : Some n ≡ None = e in cc)
first_split n (m ∷ ns) e = let same : n ≡ m = some_same e in (ns, ap (λ k. k ∷ ns) (sym same))

module _ {K V : Type 0} (cmp : K → K → Ordering) (P : K → Type 0) (a : Arenas K V) (s : IsSound cmp a) where
  empty_keys : (ps : List (K × V)) → length ps ≡ 0 → AllKeys P ps
  empty_keys [] e = tt
  empty_keys (p ∷ ps) e = absurd (omega (arith, e))

  -- nothing comes before a leaf at which the pairs start
  pub start_passed : (x : Option ℕ) → IsOwnLeaf a x → starts_at a x ≡ 0 → IsPassed P a x
  start_passed None own e =
      record { fore = leaves_of a; rear = []; all = sym (append-nil (leaves_of a)); first = refl; keys = empty_keys (joined_over (pairs_in_leaf a) (leaves_of a)) (sym (ap length (all_held a)) ∙ e) }
  start_passed (Some n) own e =
      let p = parting n (leaves_of a) own.1 in
      let before = before_parted (pairs_in_leaf a) n (leaves_of a) p.fore p.rear p.all (once cmp a s own.0 n) in
      record { fore = p.fore; rear = n ∷ p.rear; all = p.all; first = refl; keys = empty_keys (joined_over (pairs_in_leaf a) p.fore) (sym before ∙ e) }

  -- nor anything at all in a bare tree
  pub bare_passed : a.height ≡ 0 → IsPassed P a None
  bare_passed flat = split s.stands
    where
      split : HasNoTree a ⊎ (a.height ≢ 0) × Stands cmp (content_of a) a.height a.root → IsPassed P a None
      split (inl bare) =
          let none : pairs_of a ≡ [] = ap (λ n. pairs_under (content_of a) n a.root) bare.flat ∙ ap (λ x. leaf_pairs (option_map (λ (l : Leaf K V). l.array) x)) (bare.empty a.root) in
          start_passed None tt (ap length none)
      split (inr stands) = absurd (stands.0 flat)

module _ {K V : Type 0} (cmp : K → K → Ordering) (o : IsTotalOrder cmp) (key : K) (beyond : Bool) (a : Arenas K V) (s : IsSound cmp a) (h : a.height ≢ 0) (n : ℕ) (on : n ≡ way cmp (content_of a) key a.height a.root) where
  -- what comes before the leaf on the way to a key lies before bounds at the key
  pub way_passed : IsOwnLeaf a (Some n) × IsPassed (λ k. is_from_start cmp (bound_at key beyond) k ≡ false) a (Some n)
  way_passed =
      let tree = (stands_of cmp a s h).tree in
      let there = leaf_there cmp o key (content_of a) a.height a.root tree in
      let r = around cmp o key (content_of a) a.height a.root there.0 tree there.1 in
      let order : leaves_of a ≡ r.lefts ++ n ∷ r.rights = r.order ∙ ap (λ k. r.lefts ++ k ∷ r.rights) (sym on) in (
        (h, λ z. let all : times n (r.lefts ++ n ∷ r.rights) ≡ 0 = subst (λ ks. times n ks ≡ 0) order z in omega (arith, times_append n r.lefts (n ∷ r.rights), first_times n r.rights, all)),
        record {
          fore = r.lefts;
          rear = n ∷ r.rights;
          all = order;
          first = refl;
          keys = subst (AllKeys (λ k. is_from_start cmp (bound_at key beyond) k ≡ false)) r.fore (all_weaken (λ k. cmp k key ≡ Less) (λ k. is_from_start cmp (bound_at key beyond) k ≡ false) (before_bound cmp o key beyond) r.front r.before);
        },
      )

-- a leaf that loses its pairs within a range, where those before it lie outside
module _ {K V : Type 0} {cmp : K → K → Ordering} (o : IsTotalOrder cmp) (lower upper : Bound K) {a : Arenas K V} {n : ℕ} {l m : Leaf K V} (t : IsThinned cmp (λ k. not (range_contains cmp lower upper k)) a n l m)
    (keys : AllKeys (IsOutside cmp lower upper) (joined_over (pairs_in_leaf a) t.fore)) (len : ℕ) where
  abbrev held : ℕ → List (K × V)
  held = pairs_in_leaf (with_leaf a n m len)

  pub cleared_own : IsOwnLeaf (with_leaf a n m len) m.next
  cleared_own = split m.next (subst (IsOwnLeaf a) (sym t.next) (leaf_around cmp a t.sound n l t.own t.here).next_own)
    where
      split : (x : Option ℕ) → IsOwnLeaf a x → IsOwnLeaf (with_leaf a n m len) x
      split None w = tt
      split (Some k) w = (w.0, subst (λ ns. times k ns ≢ 0) (sym (thin_order t len)) w.1)

  pub cleared_next : IsPassed (IsOutside cmp lower upper) (with_leaf a n m len) m.next
  cleared_next = record {
    fore = t.fore ++ n ∷ [];
    rear = t.rear;
    all = thin_order t len ∙ t.all ∙ simp append_assoc;
    first = t.next ∙ behind;
    keys = subst (AllKeys (IsOutside cmp lower upper)) (sym (joined_over_append held t.fore (n ∷ []))) (all_append (IsOutside cmp lower upper) (joined_over held t.fore) (joined_over held (n ∷ []))
        (subst (AllKeys (IsOutside cmp lower upper)) (sym (thin_fore t len)) keys)
        (subst (AllKeys (IsOutside cmp lower upper)) (sym (append-nil (held n))) (subst (AllKeys (IsOutside cmp lower upper)) (sym (thin_here t len)) (left_outside cmp lower upper (pairs_in_leaf a n)))));
  }
    where
      behind : l.next ≡ first_or None t.rear
      behind =
          let at = linked_at (leaf_links a.leaves) None None n t.fore t.rear (subst (λ ks. IsLinked (leaf_links a.leaves) None ks None) t.all (t.sound.linked t.own.0)) in
          let e : ◌≡◌ {A = Option (Option ℕ × Option ℕ)} (Some (l.prev, l.next)) (Some (last_or None t.fore, first_or None t.rear)) = sym (ap (option_map (λ (x : Leaf K V). (x.prev, x.next))) t.here) ∙ at in
          ap (λ (x : Option ℕ × Option ℕ). x.1) (some_same e)

  pub cleared_last : IsSound cmp (with_leaf a n m len) → 0 < length m.array.pairs → IfSome (key_at m.array.pairs (length m.array.pairs - 1)) (λ k. is_past_end cmp upper k ≡ true) → IsPassed (IsOutside cmp lower upper) (with_leaf a n m len) None
  cleared_last sound some past =
      let test : K × V → Bool = λ p. not (range_contains cmp lower upper p.0) in
      let front = joined_over (pairs_in_leaf a) t.fore in
      let back = joined_over (pairs_in_leaf a) t.rear in
      let last = last_split m.array.pairs some in
      let far : is_past_end cmp upper last.1.0 ≡ true = subst (λ (x : Option K). IfSome x (λ k. is_past_end cmp upper k ≡ true)) last.3 past in
      let filtered : filter test (pairs_in_leaf a n) ≡ last.0 ++ last.1 ∷ [] = ap (filter test) (held_is a n l t.here) ∙ sym t.pairs ∙ last.2 in
      let whole = thin_pairs t len in
      let split : pairs_of (with_leaf a n m len) ≡ (front ++ last.0) ++ last.1 ∷ back = whole ∙ ap (λ ps. front ++ (ps ++ back)) filtered ∙ simp append_assoc in
      let up = subst (IsAscending cmp) split (rising_of cmp o (with_leaf a n m len) sound) in
      let outside = all_append (IsOutside cmp lower upper) front (filter test (pairs_in_leaf a n) ++ back) keys
      (all_append (IsOutside cmp lower upper) (filter test (pairs_in_leaf a n)) back (left_outside cmp lower upper (pairs_in_leaf a n)) (behind_outside o lower upper (front ++ last.0) last.1 back up far)) in
      record {
        fore = leaves_of (with_leaf a n m len);
        rear = [];
        all = sym (append-nil (leaves_of (with_leaf a n m len)));
        first = refl;
        keys = subst (AllKeys (IsOutside cmp lower upper)) (sym whole ∙ all_held (with_leaf a n m len)) outside;
      }
