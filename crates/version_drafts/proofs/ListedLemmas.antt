-- Segments of a list, none of which is taken over.
use Rattle.std.proofs.Common.{◌≡◌, true, false, not, ℕ, ◌+◌, ◌*◌, ◌<◌, ◌≤◌, List, [], ◌∷◌, ◌++◌, ◌-◌, Some, length, get_or, map, slice_get, take, drop, append_assoc, refl, sym, ap, ◌∙◌, subst, arith, take-append-drop}
use Rattle.std.proofs.lemmas.Bool.{false≢true}
use Rattle.std.proofs.lemmas.List.{drop_more, take_more}
use Rattle.std.proofs.lemmas.List.Elements.{All-cons, All-head, All-nil, All-tail}
use Rattle.std.proofs.lemmas.List.Sums.{sum_by-cons}
use Rattle.std.specs.List.{All, flat_map}
use Rattle.std.specs.Ordering.{ordering_index}
use Rattle.std.specs.Bool.{◌==◌}
use Rattle.std.specs.Cmp.{IsTotalOrder}
use Rattle.std.specs.declared.cmp.Ordering.{Ordering}
use Rattle.std.specs.declared.cmp.Ordering.TheVariants.{Less, Equal, Greater}
use Rattle.leaf_array.specs.Pairs.{IsAscending}
use Rattle.version_views.specs.Cuts.{IsSeparated, pairs_in}
use Rattle.version_views.specs.Items.{row_keys, row_owners, segment_owners}
use Rattle.version_views.specs.Rows.{CutsInRows, IsRow, IsRowed, count_in}
use Rattle.version_views.specs.Views.{IsView, blocks_at}
use Rattle.version_views.specs.declared.directory.Directory.{Directory}
use Rattle.version_views.specs.declared.row.Row as view_rows
use Rattle.version_drafts.specs.Cutting.{one_open, room_spent, trees}
use Rattle.version_drafts.specs.Parts.{LiesWithin, blocks_of_parts, made_in, makes}
use Rattle.version_drafts.specs.declared.segments.Part.{Part}
use Rattle.version_drafts.specs.declared.segments.Part.TheVariants as parts
use Rattle.version_drafts.specs.declared.segments.Row.{Row}
use Rattle.version_drafts.specs.declared.segments.SegmentBuilder.{SegmentBuilder}
use Rattle.tree_index.proofs.ShapeLemmas.{all_append}
use Rattle.version_views.proofs.FilterLemmas.{all_rear, rising_cons, rising_front, rising_head, rising_none, rising_tail, rising_under}

module _ {K V : Type 0} where
  -- where nothing is older, all parts are new
  pub all_new : (ps : List (Part K V)) → All (LiesWithin 0) ps → made_in ps ≡ length ps
  all_new [] lies = refl
  all_new (parts.Taken from upto ∷ ps) lies = let some = All-head (LiesWithin 0) (parts.Taken from upto) ps lies in absurd (omega (arith, some.0, some.1))
  all_new (parts.Made tree ∷ ps) lies =
      let rest = all_new ps (All-tail (LiesWithin 0) (parts.Made tree) ps lies) in
      let sum = sum_by-cons makes (parts.Made tree) ps in
      omega (arith, rest, sum)

  -- and so they have the same pairs, whatever is older
  pub blocks_new : (blocks : List (List (K × V))) (ps : List (Part K V)) → All (LiesWithin 0) ps → blocks_of_parts [] ps ≡ blocks_of_parts blocks ps
  blocks_new blocks [] lies = refl
  blocks_new blocks (parts.Taken from upto ∷ ps) lies = let some = All-head (LiesWithin 0) (parts.Taken from upto) ps lies in absurd (omega (arith, some.0, some.1))
  blocks_new blocks (parts.Made tree ∷ ps) lies = ap (λ bs. tree.pairs ∷ bs) (blocks_new blocks ps (All-tail (LiesWithin 0) (parts.Made tree) ps lies))

  -- the same segments and the same open tree have room for the same pairs
  pub spent_same : (s : ℕ) (c c' : SegmentBuilder K V) → c'.row ≡ c.row → c'.tail.pairs ≡ c.tail.pairs → room_spent s c' ≡ room_spent s c
  spent_same s c c' row tail = ap (λ (r : Row K V). s * made_in r.parts.items + length c'.tail.pairs) row ∙ ap (λ ps. s * made_in c.row.parts.items + length ps) tail

  -- where no tree was made, there is room for no pair
  pub none_spent : (s : ℕ) (c : SegmentBuilder K V) → trees c ≡ 0 → room_spent s c ≡ 0
  none_spent s c none =
      let row : made_in c.row.parts.items ≡ 0 = omega (arith, none) in
      let none_open : one_open c.tail.pairs ≡ 0 = omega (arith, none) in
      ap (λ m. s * m + length c.tail.pairs) row ∙ rest c.tail.pairs none_open
    where
      rest : (ps : List (K × V)) → one_open ps ≡ 0 → s * 0 + length ps ≡ 0
      rest [] e = omega arith
      rest (p ∷ ps) e = absurd (omega (arith, e))

  -- pairs are in as few trees of up to s pairs as can hold them
  pub fewest : (s n : ℕ) (c : SegmentBuilder K V) → 1 ≤ s → room_spent s c ≡ n → s * trees c < n + s
  fewest s n c least spent = open_tree (made_in c.row.parts.items) c.tail.pairs spent
    where
      open_tree : (m : ℕ) (ps : List (K × V)) → s * m + length ps ≡ n → s * (m + one_open ps) < n + s
      open_tree m [] e = let times : s * (m + 0) ≡ s * m = grind arith in omega (arith, times, e, least)
      open_tree m (p ∷ ps) e = let times : s * (m + 1) ≡ s * m + s = grind arith in omega (arith, times, e)

-- clones of a key and of a value are the pair
pub pair_cloned : {K V : Type 0} (p : K × V) (k : K) (v : V) → k ≡ p.0 → v ≡ p.1 → (k, v) ≡ p
pair_cloned p k v key value = ap (λ x. (x, v)) key ∙ ap (λ y. (p.0, y)) value

-- the keys of a list rise up to each of its pairs
pub rising_taken : {K V : Type 0} (cmp : K → K → Ordering) (ps : List (K × V)) (i : ℕ) (d : K × V) → IsAscending cmp ps → i < length ps → IsAscending cmp (take i ps ++ get_or ps i d ∷ [])
rising_taken cmp ps i d up lt =
    let p = get_or ps i d in
    let whole : (take i ps ++ p ∷ []) ++ drop (i + 1) ps ≡ ps = append_assoc (take i ps) (p ∷ []) (drop (i + 1) ps) ∙ ap (λ qs. take i ps ++ qs) (sym (drop_more ps i d lt)) ∙ take-append-drop i ps in
    rising_front cmp (take i ps ++ p ∷ []) (drop (i + 1) ps) (subst (IsAscending cmp) (sym whole) up)

module _ {K V : Type 0} (cmp : K → K → Ordering) where
  rising_one : (p : K × V) → IsAscending cmp (p ∷ [])
  rising_one p = rising_cons cmp p [] tt (rising_none V cmp)

  -- up to the first pair at most, the keys rise
  pub rising_first : (ps : List (K × V)) → IsAscending cmp (take 1 ps)
  rising_first [] = rising_none V cmp
  rising_first (p ∷ ps) = rising_one p

  -- a pair more, whose key is above the last one
  rising_next : IsTotalOrder cmp → (xs : List (K × V)) (q p : K × V) → cmp q.0 p.0 ≡ Less → IsAscending cmp (xs ++ q ∷ []) → IsAscending cmp ((xs ++ q ∷ []) ++ p ∷ [])
  rising_next o [] q p l up = rising_cons cmp q (p ∷ []) (l, tt) (rising_one p)
  rising_next o (x ∷ xs) q p l up =
      let over = rising_head cmp x (xs ++ q ∷ []) up in
      let last = (all_rear (λ y. cmp x.0 y ≡ Less) xs (q ∷ []) over).0 in
      rising_cons cmp x ((xs ++ q ∷ []) ++ p ∷ []) (all_append (λ y. cmp x.0 y ≡ Less) (xs ++ q ∷ []) (p ∷ []) over (o.trans x.0 q.0 p.0 last l, tt)) (rising_next o xs q p l (rising_tail cmp x (xs ++ q ∷ []) up))

  -- the keys rise by one pair more if and only if its key is above the last one
  module _ (ps : List (K × V)) (i : ℕ) (c d : K × V) (some : 1 ≤ i) (within : i < length ps) where
    abbrev before : K × V
    before = get_or ps (i - 1) c

    abbrev here : K × V
    here = get_or ps i d

    front : take i ps ≡ take (i - 1) ps ++ before ∷ []
    front = let back : i - 1 + 1 ≡ i = omega (arith, some) in ap (λ n. take n ps) (sym back) ∙ take_more ps (i - 1) c (omega (arith, some, within))

    both : take (i + 1) ps ≡ (take (i - 1) ps ++ before ∷ []) ++ here ∷ []
    both = take_more ps i d within ∙ ap (λ xs. xs ++ here ∷ []) front

    pub rising_more : IsTotalOrder cmp → cmp before.0 here.0 ≡ Less → IsAscending cmp (take i ps) → IsAscending cmp (take (i + 1) ps)
    rising_more o l up = subst (IsAscending cmp) (sym both) (rising_next o (take (i - 1) ps) before here l (subst (IsAscending cmp) front up))

    pub rising_only : IsAscending cmp (take (i + 1) ps) → cmp before.0 here.0 ≡ Less
    rising_only up = (all_rear (λ y. cmp y here.0 ≡ Less) (take (i - 1) ps) (before ∷ []) (rising_under cmp (take (i - 1) ps ++ before ∷ []) here (subst (IsAscending cmp) both up))).0

-- what the test says whether a key is below another
pub is_less : (o : Ordering) → false ≡ not (ordering_index o == 0) → o ≡ Less
is_less Less e = refl
is_less Equal e = absurd (false≢true e)
is_less Greater e = absurd (false≢true e)

pub is_not_less : (o : Ordering) → true ≡ not (ordering_index o == 0) → o ≡ Less → ⊥
is_not_less Less e l = false≢true (sym e)
is_not_less Equal e l = cc
is_not_less Greater e l = cc

-- a directory without rows has no segment
pub none_at : {K V R O : Type 0} (owners : R → List O) (pairs : O → List (K × V)) (d : Directory K R) → d.rows.items ≡ [] → blocks_at owners pairs d ≡ []
none_at owners pairs d none = ap (λ rs. map pairs (flat_map (row_owners owners) rs)) none

-- it is a version
module _ {K R : Type 0} (d : Directory K R) (none : d.rows.items ≡ []) (keys : d.separators.items ≡ []) where
  pub rowed_none : {V : Type 0} (blocks : R → List (List (K × V))) → d.ends.items ≡ [] → IsRowed blocks d
  rowed_none blocks ends =
      let total : map (λ (r : view_rows.Row K R). pairs_in (blocks r.segments)) d.rows.items ≡ [] = ap (map (λ (r : view_rows.Row K R). pairs_in (blocks r.segments))) none in
      record {
        rows = subst (All (λ r. IsRow (blocks r.segments) (row_keys r))) (sym none) (All-nil (λ r. IsRow (blocks r.segments) (row_keys r)));
        separated = subst (λ bs. IsSeparated bs d.separators.items) (sym total) (ap (map Some) keys);
        ends = record {
          count = ap length ends ∙ sym (ap length none);
          each = λ i h. let size = ap length none in absurd (omega (arith, h, size));
        };
      }

  -- it cuts no blocks
  pub cuts_none : {V : Type 0} → d.ends.items ≡ [] → CutsInRows {V = V} [] d
  cuts_none ends = record {
    count = ap length ends ∙ sym (ap length none);
    upto = ap count_in ends;
    rising = λ i h. let size = ap length ends in absurd (omega (arith, h, size));
    within = λ i h. let size = ap length ends in absurd (omega (arith, h, size));
    rows = λ i r here. let nothing = subst (λ rs. slice_get rs i ≡ Some r) none here in absurd (cc);
    greatest = λ i k told. let nothing = subst (λ ks. slice_get ks i ≡ Some k) keys told in absurd (cc);
  }

  pub view_none : {V O : Type 0} (cmp : K → K → Ordering) (has_row : R → Type 0) (owners : R → List O) (has : O → Type 0) (pairs : O → List (K × V)) → d.ends.items ≡ [] → d.length ≡ 0 → IsView cmp has_row owners has pairs d
  view_none {V} cmp has_row owners has pairs ends count =
      let all : segment_owners owners d ≡ [] = ap (flat_map (row_owners owners)) none in
      let blocks : blocks_at owners pairs d ≡ [] = ap (map pairs) all in
      record {
        there = subst (All (λ r. has_row r.segments)) (sym none) (All-nil (λ r. has_row r.segments));
        segments = subst (All has) (sym all) (All-nil has);
        rowed = rowed_none (λ r. map pairs (owners r)) ends;
        rising = record {
          some = subst (All (λ b. 1 ≤ length b)) (sym blocks) (All-nil (λ b. 1 ≤ length b));
          rising = subst (λ bs. IsAscending cmp (pairs_in bs)) (sym blocks) (rising_none V cmp);
        };
        counted = count ∙ sym (ap (λ bs. length (pairs_in bs)) blocks);
      }

-- what has no stretch lies within any version
pub lies_more : {K V : Type 0} (n : ℕ) (ps : List (Part K V)) → All (LiesWithin 0) ps → All (LiesWithin n) ps
lies_more n [] lies = All-nil (LiesWithin n)
lies_more n (parts.Taken from upto ∷ ps) lies = let some = All-head (LiesWithin 0) (parts.Taken from upto) ps lies in absurd (omega (arith, some.0, some.1))
lies_more n (parts.Made tree ∷ ps) lies = All-cons (LiesWithin n) (parts.Made tree) ps tt (lies_more n ps (All-tail (LiesWithin 0) (parts.Made tree) ps lies))
