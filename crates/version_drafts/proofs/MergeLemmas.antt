-- Changes and pairs that are merged step by step.
use Rattle.std.proofs.Common.{◌≡◌, inl, inr, Bool, true, false, ℕ, zero, suc, ◌+◌, ◌-◌, ◌*◌, ◌<◌, ◌≤◌, length, arith, take, List, [], ◌∷◌, ◌++◌, Option, Some, None, drop, append_assoc, refl, sym, ap, ◌∙◌, subst}
use Rattle.std.specs.Prelude.{slice_get}
use Rattle.std.specs.Cmp.{IsTotalOrder}
use Rattle.std.specs.declared.cmp.Ordering.{Ordering}
use Rattle.std.specs.declared.cmp.Ordering.TheVariants.{Less, Equal, Greater}
use Rattle.leaf_array.specs.Pairs.{IsAscending}
use Rattle.version_drafts.specs.Changes.{apply_delta, pair_left}
use Rattle.version_drafts.proofs.DeltaLemmas.{merge_less, merge_equal, merge_greater}
use Rattle.std.proofs.lemmas.Bool.{false≢true, cases_lt}
use Rattle.std.proofs.lemmas.Bool.Decides.{eqb_tells}
use Rattle.std.proofs.lemmas.List.{take-append-drop}
use Rattle.std.proofs.lemmas.Nat.{mul-le}
use Rattle.std.specs.List.{All}
use Rattle.std.specs.Option.{option_map}
use Rattle.std.proofs.lemmas.Option.{slice_get-get_or}
use Rattle.tree_index.specs.Shape.{AllKeys}
use Rattle.tree_index.proofs.WayLemmas.{some_same}
use Rattle.version_views.specs.Cuts.{greatest_key, pairs_in, IsTight}
use Rattle.version_drafts.specs.Cutting.{GivesNoMoreThanRead, IsReachedBy, IsThrifty, Joins, differ, one_open, trees, turn_count}
use Rattle.version_drafts.specs.Parts.{made_in}
use Rattle.version_drafts.specs.declared.segments.Row.{Row}
use Rattle.version_drafts.specs.declared.segments.SegmentBuilder.{SegmentBuilder}
use Rattle.version_views.proofs.BlockListLemmas.{pairs_in-append}
use Rattle.version_drafts.proofs.CuttingLemmas.{open_none, open_one}
use Rattle.version_views.proofs.FilterLemmas.{rising_front, rising_head, rising_rear, rising_tail}
use Rattle.version_views.proofs.ChangeScanLemmas.{block_at}

module _ {X : Type 0} where
  pub head_of : (xs : List X) (x : X) → Some x ≡ slice_get xs 0 → xs ≡ x ∷ drop 1 xs
  head_of [] x h = cc
  head_of (y ∷ xs) x h = let same : y ≡ x = cc in rw same refl

  pub none_of : (xs : List X) → ◌≡◌ {A = Option X} None (slice_get xs 0) → xs ≡ []
  none_of [] h = refl
  none_of (y ∷ xs) h = cc

  -- what is taken from the front goes to the end
  pub taken : (out more front rest whole : List X) → more ≡ out ++ front → whole ≡ front ++ rest → more ++ rest ≡ out ++ whole
  taken out more front rest whole e f = rw (e, f) (append_assoc out front rest)

module _ {K V : Type 0} (cmp : K → K → Ordering) where
  pub rising_part : (out front rest whole : List (K × V)) → whole ≡ front ++ rest → IsAscending cmp (out ++ whole) → IsAscending cmp (out ++ front)
  rising_part out front rest whole e up = rising_front cmp (out ++ front) rest (subst (IsAscending cmp) (ap (λ xs. out ++ xs) e ∙ sym (append_assoc out front rest)) up)

  pub rising_rest : (xs : List (K × V)) (x : K × V) → xs ≡ x ∷ drop 1 xs → IsAscending cmp xs → IsAscending cmp (drop 1 xs)
  rising_rest xs x e up = rising_tail cmp x (drop 1 xs) (subst (IsAscending cmp) e up)

module _ {K V : Type 0} {cmp : K → K → Ordering} (o : IsTotalOrder cmp) (cs : List (K × Option V)) (ps : List (K × V)) where
  -- the five ways to take what comes first
  pub rest_of_changes : (k : K) (to : Option V) → cs ≡ (k, to) ∷ drop 1 cs → ps ≡ [] → apply_delta cmp cs ps ≡ pair_left k to ++ apply_delta cmp (drop 1 cs) ps
  rest_of_changes k to e f = ap (λ xs. apply_delta cmp xs ps) e ∙ rw f refl

  pub rest_of_pairs : (p : K × V) → cs ≡ [] → ps ≡ p ∷ drop 1 ps → apply_delta cmp cs ps ≡ p ∷ [] ++ apply_delta cmp cs (drop 1 ps)
  rest_of_pairs p e f = ap (λ xs. apply_delta cmp xs ps) e ∙ (f ∙ ap (λ xs. p ∷ apply_delta cmp xs (drop 1 ps)) (sym e))

  pub change_first : (k : K) (to : Option V) (p : K × V) → cs ≡ (k, to) ∷ drop 1 cs → ps ≡ p ∷ drop 1 ps → cmp k p.0 ≡ Less → IsAscending cmp ps → apply_delta cmp cs ps ≡ pair_left k to ++ apply_delta cmp (drop 1 cs) ps
  change_first k to p e f l up = ap (λ xs. apply_delta cmp xs ps) e ∙ (ap (apply_delta cmp ((k, to) ∷ drop 1 cs)) f ∙ (merge_less o k to (drop 1 cs) p (drop 1 ps) l (subst (IsAscending cmp) f up) ∙ ap (λ xs. pair_left k to ++ apply_delta cmp (drop 1 cs) xs) (sym f)))

  pub both_first : (k : K) (to : Option V) (p : K × V) → cs ≡ (k, to) ∷ drop 1 cs → ps ≡ p ∷ drop 1 ps → cmp k p.0 ≡ Equal → IsAscending cmp ps → apply_delta cmp cs ps ≡ pair_left k to ++ apply_delta cmp (drop 1 cs) (drop 1 ps)
  both_first k to p e f q up = ap (λ xs. apply_delta cmp xs ps) e ∙ (ap (apply_delta cmp ((k, to) ∷ drop 1 cs)) f ∙ merge_equal o k to (drop 1 cs) p (drop 1 ps) q (subst (IsAscending cmp) f up))

  pub pair_first : (k : K) (to : Option V) (p : K × V) → cs ≡ (k, to) ∷ drop 1 cs → ps ≡ p ∷ drop 1 ps → cmp k p.0 ≡ Greater → apply_delta cmp cs ps ≡ p ∷ [] ++ apply_delta cmp cs (drop 1 ps)
  pair_first k to p e f g = ap (λ xs. apply_delta cmp xs ps) e ∙ (ap (apply_delta cmp ((k, to) ∷ drop 1 cs)) f ∙ (merge_greater o k to (drop 1 cs) p (drop 1 ps) g ∙ ap (λ xs. p ∷ apply_delta cmp xs (drop 1 ps)) (sym e)))

-- ---- a segment, and what lies behind it

module _ {X : Type 0} (ps rest : List X) (p : X) (first : ps ≡ p ∷ drop 1 ps) where
  pub drop_both : drop 1 (ps ++ rest) ≡ drop 1 ps ++ rest
  drop_both = ap (λ qs. drop 1 (qs ++ rest)) first

  pub first_both : ps ++ rest ≡ p ∷ drop 1 (ps ++ rest)
  first_both = ap (λ qs. qs ++ rest) first ∙ ap (λ qs. p ∷ qs) (sym drop_both)

  pub length_first : length ps ≡ length (drop 1 ps) + 1
  length_first = let long = ap length first in omega (arith, long)

pub pairs_behind_rise : {K V : Type 0} (cmp : K → K → Ordering) (n : ℕ) (blocks : List (List (K × V))) → IsAscending cmp (pairs_in blocks) → IsAscending cmp (pairs_in (drop n blocks))
pairs_behind_rise cmp n blocks up = rising_rear cmp (pairs_in (take n blocks)) (pairs_in (drop n blocks)) (subst (IsAscending cmp) (ap pairs_in (sym (take-append-drop n blocks)) ∙ pairs_in-append (take n blocks) (drop n blocks)) up)

-- the keys of a block rise where those of all do
pub block_rises : {K V : Type 0} (cmp : K → K → Ordering) (n : ℕ) (blocks : List (List (K × V))) (b : List (K × V)) → Some b ≡ slice_get blocks n → IsAscending cmp (pairs_in blocks) → IsAscending cmp b
block_rises cmp n blocks b here up = rising_front cmp b (pairs_in (drop (n + 1) blocks)) (subst (IsAscending cmp) (block_at n blocks b here) (pairs_behind_rise cmp n blocks up))

pub all_slice : {X : Type 0} (P : X → Type 0) (xs : List X) (i : ℕ) (x : X) → All P xs → slice_get xs i ≡ Some x → P x
all_slice P [] i x all e = absurd (cc)
all_slice P (y ∷ ys) zero x all e = subst P (some_same e) (all 0 y (omega arith))
all_slice P (y ∷ ys) (suc i) x all e = all_slice P ys i x (λ k d h. all (suc k) d (omega (arith, h))) e

pub tight_at : {K V : Type 0} (s : ℕ) (blocks : List (List (K × V))) (i : ℕ) (b c : List (K × V)) → IsTight s blocks → slice_get blocks i ≡ Some b → slice_get blocks (i + 1) ≡ Some c → s < length b + length c
tight_at s [] i b c t e f = absurd (cc)
tight_at s (x ∷ []) zero b c t e f = absurd (cc)
tight_at s (x ∷ (y ∷ bs)) zero b c t e f = let more = t.0 in let l = ap length (some_same e) in let r = ap length (some_same f) in omega (arith, more, l, r)
tight_at s (x ∷ bs) (suc i) b c t e f = tight_at s bs i b c t.1 e (let same : suc i + 1 ≡ suc (i + 1) = omega arith in sym (ap (slice_get (x ∷ bs)) same) ∙ f)

pub first_behind : {X : Type 0} (n : ℕ) (xs : List X) → slice_get (drop n xs) 0 ≡ slice_get xs n
first_behind zero xs = refl
first_behind (suc n) [] = refl
first_behind (suc n) (x ∷ xs) = first_behind n xs

-- the last key of a segment
module _ {K V : Type 0} where
  some_pair : (o : Option (K × V)) (k : K) → Some k ≡ option_map (λ p. p.0) o → (p : K × V) × (o ≡ Some p) × (p.0 ≡ k)
  some_pair None k e = absurd (cc)
  some_pair (Some p) k e = (p, refl, sym (some_same e))

  pub greatest_pair : (ps : List (K × V)) (k : K) → Some k ≡ greatest_key ps → (p : K × V) × (slice_get ps (length ps - 1) ≡ Some p) × (p.0 ≡ k)
  greatest_pair ps k e = some_pair (slice_get ps (length ps - 1)) k e

  none_pair : (o : Option (K × V)) → ◌≡◌ {A = Option K} None (option_map (λ p. p.0) o) → o ≡ None
  none_pair None e = refl
  none_pair (Some p) e = absurd (cc)

  pub none_greatest : (ps : List (K × V)) → ◌≡◌ {A = Option K} None (greatest_key ps) → ps ≡ []
  none_greatest [] e = refl
  none_greatest (p ∷ ps) e = absurd (let some = slice_get-get_or (p ∷ ps) (length (p ∷ ps) - 1) p (omega arith) in let none = none_pair (slice_get (p ∷ ps) (length (p ∷ ps) - 1)) e in cc)

module _ {K V : Type 0} {cmp : K → K → Ordering} (o : IsTotalOrder cmp) where
  pub all_under : (k : K) (ps : List (K × V)) (p : K × V) → IsAscending cmp ps → slice_get ps (length ps - 1) ≡ Some p → cmp k p.0 ≡ Greater → AllKeys (λ y. cmp y k ≡ Less) ps
  all_under k [] p up e g = tt
  all_under k (q ∷ []) p up e g = let same : q ≡ p = some_same e in (rw (ap (λ x. cmp k x.0) same ∙ g) at (o.antisymm q.0 k), tt)
  all_under k (q ∷ (r ∷ qs)) p up e g =
      let step : length (q ∷ (r ∷ qs)) - 1 ≡ suc (length (r ∷ qs) - 1) = omega arith in
      let rest = all_under k (r ∷ qs) p (rising_tail cmp q (r ∷ qs) up) (sym (ap (slice_get (q ∷ (r ∷ qs))) step) ∙ e) g in
      (o.trans q.0 r.0 k (rising_head cmp q (r ∷ qs) up).0 rest.0, rest)

module _ {K V X : Type 0} (cmp : K → K → Ordering) where
  pub touched_later : (cs : List (K × X)) (ps qs : List (K × V)) (c : K × X) (p : K × V) → IsReachedBy cmp cs ps → ps ≡ p ∷ drop 1 ps → cs ≡ c ∷ drop 1 cs → cmp c.0 p.0 ≡ Greater → qs ≡ drop 1 ps → IsReachedBy cmp cs qs
  touched_later cs [] qs c p h e f g d = absurd (cc)
  touched_later cs (q ∷ []) qs c p h e f g d =
      let last : q ≡ h.pair = some_same h.last in
      let here : q ≡ p = cc in
      let change : c ≡ h.change = some_same (sym (ap (λ xs. slice_get xs 0) f) ∙ h.first) in
      absurd (h.upto (ap (λ x. cmp x.0 h.pair.0) (sym change) ∙ (ap (λ x. cmp c.0 x.0) (sym last ∙ here) ∙ g)))
  touched_later cs (q ∷ (r ∷ rs)) qs c p h e f g d =
      let step : length (q ∷ (r ∷ rs)) - 1 ≡ suc (length (r ∷ rs) - 1) = omega arith in
      let last : slice_get (r ∷ rs) (length (r ∷ rs) - 1) ≡ Some h.pair = sym (ap (slice_get (q ∷ (r ∷ rs))) step) ∙ h.last in
      subst (IsReachedBy cmp cs) (sym d) (record { change = h.change; pair = h.pair; first = h.first; last = last; upto = h.upto })

  pub never_reached : (cs : List (K × X)) (ps : List (K × V)) → ps ≡ [] → IsReachedBy cmp cs ps → ⊥
  never_reached cs [] e h = let none = h.last in cc
  never_reached cs (p ∷ ps) e h = cc

  pub none_reach : (cs : List (K × X)) (ps : List (K × V)) → cs ≡ [] → IsReachedBy cmp cs ps → ⊥
  none_reach [] ps e h = let none = h.first in cc
  none_reach (c ∷ cs) ps e h = cc

-- ---- how many trees are made

module _ {K V : Type 0} (s : ℕ) where
  pub filled_then : (a b d : ℕ) (c c' c'' : SegmentBuilder K V) → GivesNoMoreThanRead s a b c c' → GivesNoMoreThanRead s b d c' c'' → GivesNoMoreThanRead s a d c c''
  filled_then a b d c c' c'' f h = record {
    spent = (let x = f.spent in let y = h.spent in omega (arith, x, y));
    some = λ some. h.some (f.some some);
    none = λ none. h.none none ∙ f.none (elim (eqb_tells (length c'.tail.pairs) 0) [
      | inl z ↦ z.1
      | inr z ↦ let some = z.1 in let more = h.some (omega (arith, some)) in absurd (omega (arith, more, none))
    ]);
  }

  pub filled_none : (a b : ℕ) (c : SegmentBuilder K V) → b ≤ a → GivesNoMoreThanRead s a b c c
  filled_none a b c le = record { spent = omega (arith, le); some = λ h. h; none = λ e. refl }

  -- a pair was given, and as much or more was passed
  pub filled_one : (a b : ℕ) (c c' : SegmentBuilder K V) → b + 1 ≤ a → GivesNoMoreThanRead s 1 0 c c' → GivesNoMoreThanRead s a b c c'
  filled_one a b c c' less f = let spent = f.spent in record { spent = omega (arith, spent, less); some = f.some; none = f.none }

-- so many full trees and a pair more have no more pairs than full trees and some pairs
upto_full : (s a b j : ℕ) → 1 ≤ s → s * a + 1 ≤ s * b + j → a + 1 ≤ b + j
upto_full s a b j least h = elim (cases_lt a (b + j)) [
  | inl less ↦ omega (arith, less)
  | inr more ↦
      let step : s * (b + j) ≤ s * a = mul-le s (b + j) s a (omega arith) (omega (arith, more)) in
      let parts : s * (b + j) ≡ s * b + s * j = grind arith in
      let times : 1 * j ≤ s * j = mul-le 1 j s j least (omega arith) in
      absurd (omega (arith, h, step, parts, times))
]

module _ {K V : Type 0} (s : ℕ) (least : 1 ≤ s) (c c' : SegmentBuilder K V) where
  -- at most one tree for a full segment, and one for each change
  pub trees_after : (n left left' : ℕ) → n ≤ s → length c.tail.pairs ≤ s → left' ≤ left → GivesNoMoreThanRead s (n + left) left' c c' → trees c' + left' ≤ trees c + 1 + left
  trees_after n left left' small room fewer f =
      let m = made_in c.row.parts.items in
      let m' = made_in c'.row.parts.items in
      let spent = f.spent in
      let one : s * (m + 1) ≡ s * m + s = grind arith in
      let two : s * (m + 2) ≡ s * m + s + s = grind arith in
      elim (eqb_tells (length c'.tail.pairs) 0) [
        | inl z ↦ let same = f.none z.1 in let none = open_none c'.tail.pairs z.1 in omega (arith, same, none, fewer)
        | inr z ↦
            let some = z.1 in
            let after = open_one c'.tail.pairs (omega (arith, some)) in
            elim (eqb_tells (length c.tail.pairs) 0) [
              | inl y ↦
                  let none = y.1 in
                  let before = open_none c.tail.pairs y.1 in
                  let up = upto_full s m' (m + 1) (left - left') least (omega (arith, spent, none, some, small, fewer, one)) in
                  omega (arith, after, before, up, fewer)
              | inr y ↦
                  let more = y.1 in
                  let before = open_one c.tail.pairs (omega (arith, more)) in
                  let up = upto_full s m' (m + 2) (left - left') least (omega (arith, spent, some, small, room, fewer, two)) in
                  omega (arith, after, before, up, fewer)
            ]
      ]

  -- none for a segment that fits into the open tree
  pub trees_joined : (n left left' : ℕ) → 0 < length c.tail.pairs → length c.tail.pairs + n ≤ s → left' ≤ left → GivesNoMoreThanRead s (n + left) left' c c' → trees c' + left' ≤ trees c + left
  trees_joined n left left' some small fewer f =
      let m = made_in c.row.parts.items in
      let m' = made_in c'.row.parts.items in
      let spent = f.spent in
      let still = f.some some in
      let one : s * (m + 1) ≡ s * m + s = grind arith in
      let before = open_one c.tail.pairs some in
      let after = open_one c'.tail.pairs still in
      let up = upto_full s m' (m + 1) (left - left') least (omega (arith, spent, still, small, fewer, one)) in
      omega (arith, after, before, up, fewer)

  -- one for each change behind all segments
  pub trees_behind : (left : ℕ) → length c.tail.pairs ≤ s → GivesNoMoreThanRead s left 0 c c' → trees c' ≤ trees c + left
  trees_behind left room f =
      let m = made_in c.row.parts.items in
      let m' = made_in c'.row.parts.items in
      let spent = f.spent in
      let one : s * (m + 1) ≡ s * m + s = grind arith in
      elim (eqb_tells (length c'.tail.pairs) 0) [
        | inl z ↦ let same = f.none z.1 in let none = open_none c'.tail.pairs z.1 in omega (arith, same, none)
        | inr z ↦
            let some = z.1 in
            let after = open_one c'.tail.pairs (omega (arith, some)) in
            elim (eqb_tells (length c.tail.pairs) 0) [
              | inl y ↦
                  let none = y.1 in
                  let before = open_none c.tail.pairs y.1 in
                  let up = upto_full s m' m left least (omega (arith, spent, none, some)) in
                  omega (arith, after, before, up)
              | inr y ↦
                  let more = y.1 in
                  let before = open_one c.tail.pairs (omega (arith, more)) in
                  let up = upto_full s m' (m + 1) left least (omega (arith, spent, some, room, one)) in
                  omega (arith, after, before, up)
            ]
      ]

  -- what was made of blocks, the first of which was passed; and how often those behind turn
  module _ (budget n left left' : ℕ) (test : K → Bool) (last next : Bool) (rest rest' : List (List (K × V))) (small : n ≤ s) (room : length c.tail.pairs ≤ s) (t : IsThrifty s budget test last rest left c) (f : GivesNoMoreThanRead s (n + left) left' c c') (fewer : left' ≤ left) where
    none_made : length c'.tail.pairs ≡ 0 → trees c' ≤ trees c
    none_made z = let same = f.none z in let none = open_none c'.tail.pairs z in omega (arith, same, none)

    -- a change or a turn was passed
    pub thrifty_paid : 1 + left' + turn_count test next (pairs_in rest') ≤ left + turn_count test last (pairs_in rest) → IsThrifty s budget test next rest' left' c'
    thrifty_paid pays =
        let up = trees_after n left left' small room fewer f in
        let all = t.all in
        record {
          all = omega (arith, up, all, pays, fewer);
          spare = λ z some b there fits. let none = none_made z in omega (arith, none, all, pays, fewer);
          behind = λ e z. let none = none_made z in omega (arith, none, all, pays, fewer);
        }

    -- nothing was left of it, as of what came before it
    pub thrifty_none : n ≡ 0 → left' ≡ left → last ≡ true → turn_count test next (pairs_in rest') ≡ turn_count test last (pairs_in rest) → IsThrifty s budget test next rest' left' c'
    thrifty_none none same gone turns' =
        let spent = f.spent in
        let up = trees_behind 0 room (record { spent = omega (arith, spent, none, same); some = f.some; none = f.none }) in
        let all = t.all in
        let more : length c'.tail.pairs ≡ 0 → trees c + 1 + 2 * left + turn_count test last (pairs_in rest) ≤ budget = λ z. t.behind gone (elim (eqb_tells (length c.tail.pairs) 0) [
          | inl y ↦ y.1
          | inr y ↦ let some = y.1 in let still = f.some (omega (arith, some)) in absurd (omega (arith, still, z))
        ]) in
        record {
          all = omega (arith, up, all, same, turns');
          spare = λ z some b there fits. let left'' = more z in omega (arith, up, left'', same, turns');
          behind = λ e z. let left'' = more z in omega (arith, up, left'', same, turns');
        }

    -- the segment was joined with what was last
    pub thrifty_joined : next ≡ false → turn_count test next (pairs_in rest') ≤ turn_count test last (pairs_in rest) → Joins s n c → (b : List (K × V)) → slice_get rest 0 ≡ Some b → length b ≡ n → IsThrifty s budget test next rest' left' c'
    thrifty_joined here turns' joins b there size = elim joins [
      | inl j ↦
          let more = t.spare j.0 j.1 b there (let fits = j.2 in omega (arith, fits, size)) in
          let up = trees_after n left left' small room fewer f in
          record {
            all = omega (arith, up, more, fewer, turns');
            spare = λ z some d there' fits. let none = none_made z in omega (arith, none, more, fewer, turns');
            behind = λ e z. absurd (false≢true (sym here ∙ e));
          }
      | inr j ↦
          let up = trees_joined n left left' j.0 j.1 fewer f in
          let all = t.all in
          let still = f.some j.0 in
          record {
            all = omega (arith, up, all, fewer, turns');
            spare = λ z some d there' fits. absurd (omega (arith, still, z));
            behind = λ e z. absurd (false≢true (sym here ∙ e));
          }
    ]

-- a block was passed by, of which nothing is left
pub thrifty_passed : {K V : Type 0} (s budget left : ℕ) (test : K → Bool) (last : Bool) (rest rest' : List (List (K × V))) (c : SegmentBuilder K V) → turn_count test last (pairs_in rest) ≡ differ last true + turn_count test true (pairs_in rest') → IsThrifty s budget test last rest left c → IsThrifty s budget test true rest' left c
thrifty_passed s budget left test true rest rest' c e t =
    let all = t.all in
    record {
      all = omega (arith, all, e);
      spare = λ z some b there fits. let more = t.behind refl z in omega (arith, more, e);
      behind = λ here z. let more = t.behind refl z in omega (arith, more, e);
    }
thrifty_passed s budget left test false rest rest' c e t =
    let all = t.all in
    record {
      all = omega (arith, all, e);
      spare = λ z some b there fits. omega (arith, all, e);
      behind = λ here z. omega (arith, all, e);
    }

-- what has the same parts and the same open pairs is as thrifty
pub thrifty_same : {K V : Type 0} (s : ℕ) (c c' : SegmentBuilder K V) → c'.row ≡ c.row → c'.tail.pairs ≡ c.tail.pairs → (budget left : ℕ) (test : K → Bool) (last : Bool) (rest : List (List (K × V))) → IsThrifty s budget test last rest left c → IsThrifty s budget test last rest left c'
thrifty_same {K} {V} s c c' row tail budget left test last rest t =
    let made = ap (λ (r : Row K V). made_in r.parts.items) row in
    let last' = ap (λ (r : Row K V). r.last) row in
    let size = ap length tail in
    let open' = ap one_open tail in
    let all = t.all in
    record {
      all = omega (arith, all, made, open');
      spare = λ z some b there fits. let more = t.spare (omega (arith, size, z)) (omega (arith, last', some)) b there (omega (arith, last', fits)) in omega (arith, more, made, open');
      behind = λ here z. let more = t.behind here (omega (arith, size, z)) in omega (arith, more, made, open');
    }
