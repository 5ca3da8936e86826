-- A list that is being cut takes more, and ends.
use Rattle.std.proofs.Common.{◌≡◌, ◌⊎◌, inl, inr, Bool, true, false, cond, nat_lt, ℕ, ◌+◌, ◌-◌, ◌*◌, ◌≤◌, ◌<◌, List, [], ◌∷◌, ◌++◌, Some, None, length, take, drop, append_assoc, append-nil, length-append, refl, sym, ap, ◌∙◌, subst, arith}
use Rattle.std.proofs.lemmas.Bool.Decides.{eqb_tells, nat_tests}
use Rattle.std.proofs.lemmas.List.{take_at}
use Rattle.std.proofs.lemmas.List.Elements.{All-append, All-push, All-head, All-cons, All-tail, All-nil}
use Rattle.std.proofs.lemmas.List.Sums.{sum_by-append, sum_by-cons}
use Rattle.std.specs.Cmp.{IsTotalOrder}
use Rattle.std.specs.declared.cmp.Ordering.{Ordering}
use Rattle.std.specs.declared.cmp.Ordering.TheVariants.{Less}
use Rattle.std.specs.List.{All}
use Rattle.std.proofs.lemmas.Option.{slice_get_within}
use Rattle.leaf_array.specs.Pairs.{IsAscending}
use Rattle.tree_index.specs.Depth.{IsAbove}
use Rattle.version_views.specs.Cuts.{pairs_in, IsTight}
use Rattle.version_drafts.specs.Cutting.{CountsFrom, CountsGiven, GivesNoMoreThanRead, IsClosing, IsCutting, IsHeld, IsHeldAt, IsSegmentRow, IsSegmentSized, given_pairs, last_size, one_open, room_spent}
use Rattle.version_drafts.specs.Parts.{LiesWithin, between, blocks_of_parts, made_in, makes, part_blocks, stretch_of}
use Rattle.version_drafts.specs.declared.segments.Part.{Part}
use Rattle.version_drafts.specs.declared.segments.Part.TheVariants as parts
use Rattle.version_drafts.specs.declared.segments.Row.{Row}
use Rattle.version_drafts.specs.declared.segments.SegmentBuilder.{SegmentBuilder}
use Rattle.version_views.proofs.BlockListLemmas.{pairs_in-append}
use Rattle.version_views.proofs.FilterLemmas.{rising_under, rising_none, rising_rear, all_rear}
use Rattle.version_drafts.proofs.StretchLemmas.{between_more}

-- ---- blocks in a row

module _ {K V : Type 0} where
  -- a block goes behind blocks that don't fit into one with it
  pub tight_next : (s : ℕ) (bs : List (List (K × V))) (b : List (K × V)) → All (IsSegmentSized s) bs → IsTight s bs → ((last_size bs ≡ 0) ⊎ (s < last_size bs + length b)) → IsTight s (bs ++ b ∷ [])
  tight_next s [] b sizes t h = (tt, tt)
  tight_next s (c ∷ []) b sizes t h = (
    elim h [
      | inl none ↦ let some = (All-head (IsSegmentSized s) c [] sizes).0 in absurd (omega (arith, none, some))
      | inr more ↦ more
    ],
    (tt, tt),
  )
  tight_next s (c ∷ (d ∷ bs)) b sizes t h = (t.0, tight_next s (d ∷ bs) b (All-tail (IsSegmentSized s) c (d ∷ bs) sizes) t.1 h)

  -- a larger block in place of the last one
  pub tight_larger : (s : ℕ) (bs : List (List (K × V))) (b c : List (K × V)) → length b ≤ length c → IsTight s (bs ++ b ∷ []) → IsTight s (bs ++ c ∷ [])
  tight_larger s [] b c le t = (tt, tt)
  tight_larger s (d ∷ []) b c le t = (let more = t.0 in omega (arith, more, le), (tt, tt))
  tight_larger s (d ∷ (e ∷ bs)) b c le t = (t.0, tight_larger s (e ∷ bs) b c le t.1)

  pub last_behind : (bs : List (List (K × V))) (b : List (K × V)) → last_size (bs ++ b ∷ []) ≡ length b
  last_behind [] b = refl
  last_behind (c ∷ []) b = refl
  last_behind (c ∷ (d ∷ bs)) b = last_behind (d ∷ bs) b

  pub pairs_behind : (bs : List (List (K × V))) (b : List (K × V)) → pairs_in (bs ++ b ∷ []) ≡ pairs_in bs ++ b
  pairs_behind bs b = pairs_in-append bs (b ∷ []) ∙ ap (λ ps. pairs_in bs ++ ps) (append-nil b)

module _ {K V : Type 0} (blocks : List (List (K × V))) where
  pub blocks_both : (ps qs : List (Part K V)) → blocks_of_parts blocks (ps ++ qs) ≡ blocks_of_parts blocks ps ++ blocks_of_parts blocks qs
  blocks_both [] qs = refl
  blocks_both (p ∷ ps) qs = ap (λ bs. part_blocks blocks p ++ bs) (blocks_both ps qs) ∙ sym (append_assoc (part_blocks blocks p) (blocks_of_parts blocks ps) (blocks_of_parts blocks qs))

  pub blocks_behind : (ps : List (Part K V)) (p : Part K V) → blocks_of_parts blocks (ps ++ p ∷ []) ≡ blocks_of_parts blocks ps ++ part_blocks blocks p
  blocks_behind ps p = blocks_both ps (p ∷ []) ∙ ap (λ bs. blocks_of_parts blocks ps ++ bs) (append-nil (part_blocks blocks p))

  -- a stretch has what lies between its places, also where it has no segment
  pub stretch_blocks : (from upto : ℕ) → blocks_of_parts blocks (stretch_of from upto) ≡ between from upto blocks
  stretch_blocks from upto =
      (elim (nat_lt from upto) as (λ (b : Bool). nat_lt from upto ≡ b → blocks_of_parts blocks (cond b (parts.Taken from upto ∷ []) []) ≡ between from upto blocks) [
        | true ↦ λ e. append-nil (between from upto blocks)
        | false ↦ λ e. let none : upto - from ≡ 0 = grind (arith, nat_tests) in sym (ap (λ n. take n (drop from blocks)) none)
      ]) refl

  -- and lies within the older version, where its places do
  pub stretch_within : (n from upto : ℕ) → upto ≤ n → All (LiesWithin {K = K} {V = V} n) (stretch_of from upto)
  stretch_within n from upto le =
      (elim (nat_lt from upto) as (λ (b : Bool). nat_lt from upto ≡ b → All (LiesWithin {K = K} {V = V} n) (cond b (parts.Taken from upto ∷ []) [])) [
        | true ↦ λ e. All-cons (LiesWithin n) (parts.Taken from upto) [] (grind (arith, nat_tests), le) (All-nil (LiesWithin n))
        | false ↦ λ e. All-nil (LiesWithin n)
      ]) refl

pub stretch_makes : (K V : Type 0) (from upto : ℕ) → made_in {K = K} {V = V} (stretch_of from upto) ≡ 0
stretch_makes K V from upto = elim (nat_lt from upto) as (λ (b : Bool). made_in {K = K} {V = V} (cond b (parts.Taken from upto ∷ []) []) ≡ 0) [
  | true ↦ refl
  | false ↦ refl
]

pub made_both : {K V : Type 0} (ps qs : List (Part K V)) → made_in (ps ++ qs) ≡ made_in ps + made_in qs
made_both ps qs = sum_by-append makes ps qs

pub made_behind : {K V : Type 0} (ps : List (Part K V)) (p : Part K V) → made_in (ps ++ p ∷ []) ≡ made_in ps + makes p
made_behind ps p = let sum = sum_by-append makes ps (p ∷ []) in let one = sum_by-cons makes p [] in omega (arith, sum, one)

-- ---- what is last is taken away

pub popped : {X : Type 0} (front : List X) (x : X) (items less : List X) (n : ℕ) → items ≡ front ++ x ∷ [] → n ≡ length items → less ≡ take (n - 1) items → less ≡ front
popped front x items less n e size l =
    let long : length (front ++ x ∷ []) ≡ length front + 1 = length-append front (x ∷ []) in
    let one : n - 1 ≡ length front = omega (arith, size, ap length e, long) in
    l ∙ (ap (λ m. take m items) one ∙ (ap (take (length front)) e ∙ take_at front (x ∷ []) (length front) refl))

all_fore : {X : Type 0} (P : X → Type 0) (xs ys : List X) → All P (xs ++ ys) → All P xs
all_fore P [] ys a = All-nil P
all_fore P (x ∷ xs) ys a = All-cons P x xs (All-head P x (xs ++ ys) a) (all_fore P xs ys (All-tail P x (xs ++ ys) a))

-- ---- the open tree ends

module _ {K V : Type 0} {cmp : K → K → Ordering} {s : ℕ} {blocks : List (List (K × V))} {c : SegmentBuilder K V} (h : IsCutting cmp s blocks c) where
  pub closing_apart : 0 < length c.tail.pairs → ((c.row.last ≡ 0) ⊎ (s < c.row.last + length c.tail.pairs)) → IsClosing blocks s c
  closing_apart some apart =
      let last = h.row.last in
      let behind : (last_size (blocks_of_parts blocks c.row.parts.items) ≡ 0) ⊎ (s < last_size (blocks_of_parts blocks c.row.parts.items) + length c.tail.pairs) = subst (λ n. (n ≡ 0) ⊎ (s < n + length c.tail.pairs)) last apart in
      record {
        sizes = All-push (IsSegmentSized s) (blocks_of_parts blocks c.row.parts.items) c.tail.pairs h.row.sizes (some, h.room);
        tight = tight_next s (blocks_of_parts blocks c.row.parts.items) c.tail.pairs h.row.sizes h.row.tight behind;
        within = h.row.within;
      }

  -- where the last one is full, or there is none
  pub closing_fresh : 0 < length c.tail.pairs → c.held ≡ None → IsClosing blocks s c
  closing_fresh some none = closing_apart some (elim (h.fresh none) [
    | inl z ↦ inl z
    | inr full ↦ inr (omega (arith, full, some))
  ])

  -- the older segment before it
  module _ (place : ℕ) (held : c.held ≡ Some place) where
    abbrev pub held_at : IsHeldAt blocks c.row.parts.items place
    held_at = subst (IsHeld blocks c.row.parts.items) held h.held

    -- the segments before it
    abbrev fore : List (List (K × V))
    fore = blocks_of_parts blocks held_at.front ++ between held_at.from place blocks

    whole : blocks_of_parts blocks c.row.parts.items ≡ fore ++ held_at.block ∷ []
    whole =
        ap (blocks_of_parts blocks) held_at.is
        ∙ (blocks_behind blocks held_at.front (parts.Taken held_at.from (place + 1))
        ∙ (ap (λ bs. blocks_of_parts blocks held_at.front ++ bs) (between_more held_at.from place blocks held_at.block held_at.some held_at.there)
        ∙ sym (append_assoc (blocks_of_parts blocks held_at.front) (between held_at.from place blocks) (held_at.block ∷ []))))

    pub held_size : c.row.last ≡ length held_at.block
    held_size = h.row.last ∙ (ap last_size whole ∙ last_behind fore held_at.block)

    held_pairs : given_pairs blocks c ≡ pairs_in fore ++ (held_at.block ++ c.tail.pairs)
    held_pairs = ap (λ bs. pairs_in bs ++ c.tail.pairs) whole ∙ (ap (λ ps. ps ++ c.tail.pairs) (pairs_behind fore held_at.block) ∙ append_assoc (pairs_in fore) held_at.block c.tail.pairs)

    pub held_rising : IsAscending cmp (held_at.block ++ c.tail.pairs)
    held_rising = rising_rear cmp (pairs_in fore) (held_at.block ++ c.tail.pairs) (subst (IsAscending cmp) held_pairs h.rising)

    -- what is left where it is taken off its stretch
    module _ (items : List (Part K V)) (fewer : items ≡ held_at.front ++ stretch_of held_at.from place) where
      fore_left : blocks_of_parts blocks items ≡ fore
      fore_left = ap (blocks_of_parts blocks) fewer ∙ (blocks_both blocks held_at.front (stretch_of held_at.from place) ∙ ap (λ bs. blocks_of_parts blocks held_at.front ++ bs) (stretch_blocks blocks held_at.from place))

      within_left : All (LiesWithin (length blocks)) items
      within_left =
          let front = all_fore (LiesWithin (length blocks)) held_at.front (parts.Taken held_at.from (place + 1) ∷ []) (subst (All (LiesWithin (length blocks))) held_at.is h.row.within) in
          let inside = slice_get_within blocks place held_at.block held_at.there in
          subst (All (LiesWithin (length blocks))) (sym fewer) (All-append (LiesWithin (length blocks)) held_at.front (stretch_of held_at.from place) front (stretch_within blocks (length blocks) held_at.from place (omega (arith, inside))))

      pub given_joined : (tail : List (K × V)) → tail ≡ held_at.block ++ c.tail.pairs → pairs_in (blocks_of_parts blocks items) ++ tail ≡ given_pairs blocks c
      given_joined tail both = ap (λ bs. pairs_in bs ++ tail) fore_left ∙ (ap (λ b. pairs_in fore ++ b) both ∙ sym held_pairs)

      pub made_joined : made_in items ≡ made_in c.row.parts.items
      made_joined =
          let none = stretch_makes K V held_at.from place in
          let less = ap made_in fewer ∙ made_both held_at.front (stretch_of held_at.from place) in
          let is = ap made_in held_at.is ∙ made_behind held_at.front (parts.Taken held_at.from (place + 1)) in
          omega (arith, none, less, is)

    -- both in one tree
    module _ (c' : SegmentBuilder K V) (fits : length c.tail.pairs + c.row.last ≤ s) (some : 0 < length c.tail.pairs) (fewer : c'.row.parts.items ≡ held_at.front ++ stretch_of held_at.from place) (both : c'.tail.pairs ≡ held_at.block ++ c.tail.pairs) where
      pub closing_joined : IsClosing blocks s c'
      closing_joined =
          let b = held_at.block ++ c.tail.pairs in
          let long : length b ≡ length held_at.block + length c.tail.pairs = length-append held_at.block c.tail.pairs in
          let last = held_size in
          let sized : IsSegmentSized s b = (omega (arith, long, some), omega (arith, long, fits, last)) in
          let left = fore_left c'.row.parts.items fewer in
          let blocks' : blocks_of_parts blocks c'.row.parts.items ++ c'.tail.pairs ∷ [] ≡ fore ++ b ∷ [] = ap (λ bs. bs ++ c'.tail.pairs ∷ []) left ∙ ap (λ d. fore ++ d ∷ []) both in
          let all = blocks_of_parts blocks c.row.parts.items in
          let shorter : take (length all - 1) all ≡ fore = popped fore held_at.block all (take (length all - 1) all) (length all) whole refl refl in
          record {
            sizes = subst (All (IsSegmentSized s)) (sym blocks') (All-push (IsSegmentSized s) fore b (all_fore (IsSegmentSized s) fore (held_at.block ∷ []) (subst (All (IsSegmentSized s)) whole h.row.sizes)) sized);
            tight = subst (IsTight s) (sym blocks') (tight_larger s fore held_at.block b (omega (arith, long)) (subst (IsTight s) whole h.row.tight));
            within = within_left c'.row.parts.items fewer;
          }

-- ---- the open tree is put behind the segments that are done

-- a part goes behind parts
module _ {K V : Type 0} (blocks : List (List (K × V))) (front : List (Part K V)) (b : List (K × V)) (row : Row K V) (p : Part K V) (same : part_blocks blocks p ≡ b ∷ []) (items : row.parts.items ≡ front ++ p ∷ []) where
  pub blocks_given : blocks_of_parts blocks row.parts.items ≡ blocks_of_parts blocks front ++ b ∷ []
  blocks_given = ap (blocks_of_parts blocks) items ∙ (blocks_behind blocks front p ∙ ap (λ bs. blocks_of_parts blocks front ++ bs) same)

  pub row_given : (s : ℕ) → All (IsSegmentSized s) (blocks_of_parts blocks front ++ b ∷ []) → IsTight s (blocks_of_parts blocks front ++ b ∷ []) → All (LiesWithin (length blocks)) front → LiesWithin (length blocks) p → row.last ≡ length b → IsSegmentRow blocks s row
  row_given s sizes tight within lies last = record {
    sizes = subst (All (IsSegmentSized s)) (sym blocks_given) sizes;
    tight = subst (IsTight s) (sym blocks_given) tight;
    last = last ∙ (sym (last_behind (blocks_of_parts blocks front) b) ∙ ap last_size (sym blocks_given));
    within = subst (All (LiesWithin (length blocks))) (sym items) (All-push (LiesWithin (length blocks)) front p within lies);
  }

  pub pairs_given : pairs_in (blocks_of_parts blocks row.parts.items) ≡ pairs_in (blocks_of_parts blocks front) ++ b
  pairs_given = ap pairs_in blocks_given ∙ pairs_behind (blocks_of_parts blocks front) b

module _ {K V : Type 0} {blocks : List (List (K × V))} {s : ℕ} (c : SegmentBuilder K V) (h : IsClosing blocks s c) (row : Row K V) (p : Part K V) (tail : part_blocks blocks p ≡ c.tail.pairs ∷ []) (items : row.parts.items ≡ c.row.parts.items ++ p ∷ []) where
  pub row_closed : LiesWithin (length blocks) p → row.last ≡ length c.tail.pairs → IsSegmentRow blocks s row
  row_closed lies last = row_given blocks c.row.parts.items c.tail.pairs row p tail items s h.sizes h.tight h.within lies last

  pub pairs_closed : pairs_in (blocks_of_parts blocks row.parts.items) ≡ given_pairs blocks c
  pairs_closed = pairs_given blocks c.row.parts.items c.tail.pairs row p tail items

  pub made_closed : makes p ≡ 1 → made_in row.parts.items ≡ made_in c.row.parts.items + 1
  made_closed one = let more = made_behind c.row.parts.items p in let is = ap made_in items in omega (arith, more, is, one)

-- a tree that has a pair counts as one
pub open_one : {X : Type 0} (xs : List X) → 0 < length xs → one_open xs ≡ 1
open_one [] h = absurd (omega (arith, h))
open_one (x ∷ xs) h = refl

pub open_none : {X : Type 0} (xs : List X) → length xs ≡ 0 → one_open xs ≡ 0
open_none [] h = refl
open_none (x ∷ xs) h = absurd (omega (arith, h))

-- ---- pairs are given

-- the length counts a run that was given
pub counts_run : {K V : Type 0} (blocks : List (List (K × V))) (c c' : SegmentBuilder K V) (run : List (K × V)) → given_pairs blocks c' ≡ given_pairs blocks c ++ run → c'.length ≡ c.length + length run → CountsGiven blocks c c'
counts_run blocks c c' run given' grown = let all = ap length given' ∙ length-append (given_pairs blocks c) run in omega (arith, all, grown)

-- and goes on counting what comes from a place on
pub counts_on : {K V : Type 0} (blocks : List (List (K × V))) (place : ℕ) (c c' : SegmentBuilder K V) → CountsFrom blocks place c → CountsGiven blocks c c' → CountsFrom blocks place c'
counts_on blocks place c c' h more = omega (arith, h, more)

pub counts_both : {K V : Type 0} (blocks : List (List (K × V))) (c mid c' : SegmentBuilder K V) → CountsGiven blocks c mid → CountsGiven blocks mid c' → CountsGiven blocks c c'
counts_both blocks c mid c' h more = omega (arith, h, more)

-- a run goes into the open tree
module _ {K V : Type 0} {cmp : K → K → Ordering} {s : ℕ} {blocks : List (List (K × V))} {c : SegmentBuilder K V} (h : IsCutting cmp s blocks c) (run : List (K × V)) (up : IsAscending cmp (given_pairs blocks c ++ run)) (c' : SegmentBuilder K V) (row : c'.row ≡ c.row) (held : c'.held ≡ c.held) (tail : c'.tail.pairs ≡ c.tail.pairs ++ run) where
  pub run_given_behind : given_pairs blocks c' ≡ given_pairs blocks c ++ run
  run_given_behind = ap (λ (r : Row K V). pairs_in (blocks_of_parts blocks r.parts.items) ++ c'.tail.pairs) row ∙ (ap (λ ps. pairs_in (blocks_of_parts blocks c.row.parts.items) ++ ps) tail ∙ sym (append_assoc (pairs_in (blocks_of_parts blocks c.row.parts.items)) c.tail.pairs run))

  pub tail_run : length c'.tail.pairs ≡ length c.tail.pairs + length run
  tail_run = ap length tail ∙ length-append c.tail.pairs run

  pub cutting_run : length c.tail.pairs + length run ≤ s → IsCutting cmp s blocks c'
  cutting_run room =
      let more = tail_run in
      record {
        least = h.least;
        most = h.most;
        row = subst (IsSegmentRow blocks s) (sym row) h.row;
        room = omega (arith, more, room);
        rising = subst (IsAscending cmp) (sym run_given_behind) up;
        held = subst (λ (r : Row K V). IsHeld blocks r.parts.items c'.held) (sym row) (subst (IsHeld blocks c.row.parts.items) (sym held) h.held);
        fresh = λ none. subst (λ (r : Row K V). (r.last ≡ 0) ⊎ (r.last ≡ s)) (sym row) (h.fresh (sym held ∙ none));
      }

  pub spent_run : room_spent s c' ≡ room_spent s c + length run
  spent_run = let same = ap (λ (r : Row K V). s * made_in r.parts.items) row in let more = tail_run in omega (arith, same, more)

module _ {K V : Type 0} {cmp : K → K → Ordering} (o : IsTotalOrder cmp) {s : ℕ} {blocks : List (List (K × V))} {c : SegmentBuilder K V} (h : IsCutting cmp s blocks c) (key : K) (val : V) (up : IsAscending cmp (given_pairs blocks c ++ (key, val) ∷ [])) where
  -- the key is above those of the open tree
  pub above_tail : IsAbove cmp key c.tail.pairs
  above_tail = all_rear (λ k. cmp k key ≡ Less) (pairs_in (blocks_of_parts blocks c.row.parts.items)) c.tail.pairs (rising_under cmp (given_pairs blocks c) (key, val) up)

  -- it takes the pair
  module _ (c' : SegmentBuilder K V) (row : c'.row ≡ c.row) (held : c'.held ≡ c.held) (tail : c'.tail.pairs ≡ c.tail.pairs ++ (key, val) ∷ []) where
    pub given_more : given_pairs blocks c' ≡ given_pairs blocks c ++ (key, val) ∷ []
    given_more = run_given_behind h ((key, val) ∷ []) up c' row held tail

    pub cutting_more : length c.tail.pairs < s → IsCutting cmp s blocks c'
    cutting_more room = cutting_run h ((key, val) ∷ []) up c' row held tail (omega (arith, room))

    pub spent_more : room_spent s c' ≡ room_spent s c + 1
    spent_more = spent_run h ((key, val) ∷ []) up c' row held tail

  -- it is full
  closing_full : length c.tail.pairs ≡ s → IsClosing blocks s c
  closing_full full = closing_apart h (let least = h.least in omega (arith, full, least)) (elim (eqb_tells c.row.last 0) [
    | inl z ↦ inl z.1
    | inr z ↦ let some = z.1 in inr (omega (arith, full, some))
  ])

  -- another one begins with the pair
  module _ (c' : SegmentBuilder K V) (p : Part K V) (was : part_blocks blocks p ≡ c.tail.pairs ∷ []) (items : c'.row.parts.items ≡ c.row.parts.items ++ p ∷ []) (tail : c'.tail.pairs ≡ (key, val) ∷ []) where
    pub given_next : given_pairs blocks c' ≡ given_pairs blocks c ++ (key, val) ∷ []
    given_next = ap (λ ps. ps ++ c'.tail.pairs) (pairs_given blocks c.row.parts.items c.tail.pairs c'.row p was items) ∙ ap (λ ps. given_pairs blocks c ++ ps) tail

    pub cutting_next : LiesWithin (length blocks) p → length c.tail.pairs ≡ s → c'.row.last ≡ length c.tail.pairs → c'.held ≡ None → IsCutting cmp s blocks c'
    cutting_next lies full last none =
        let one = ap length tail in
        let least = h.least in
        record {
          least = h.least;
          most = h.most;
          row = row_closed c (closing_full full) c'.row p was items lies last;
          room = omega (arith, one, least);
          rising = subst (IsAscending cmp) (sym given_next) up;
          held = subst (IsHeld blocks c'.row.parts.items) (sym none) tt;
          fresh = λ e. inr (last ∙ full);
        }

    pub spent_next : length c.tail.pairs ≡ s → makes p ≡ 1 → room_spent s c' ≡ room_spent s c + 1
    spent_next full one =
        let made : made_in c'.row.parts.items ≡ made_in c.row.parts.items + 1 = made_closed c (closing_full full) c'.row p was items one in
        let times : s * (made_in c.row.parts.items + 1) ≡ s * made_in c.row.parts.items + s = grind arith in
        let same = ap (λ n. s * n) made in
        let tail' = ap length tail in
        omega (arith, times, same, tail', full)

-- ---- another tree with the same pairs is open

module _ {K V : Type 0} (blocks : List (List (K × V))) (s : ℕ) (c c' : SegmentBuilder K V) (row : c'.row ≡ c.row) (tail : c'.tail.pairs ≡ c.tail.pairs) where
  pub given_same : given_pairs blocks c' ≡ given_pairs blocks c
  given_same = ap (λ (r : Row K V). pairs_in (blocks_of_parts blocks r.parts.items) ++ c'.tail.pairs) row ∙ ap (λ ps. pairs_in (blocks_of_parts blocks c.row.parts.items) ++ ps) tail

  pub cutting_same : (cmp : K → K → Ordering) → IsCutting cmp s blocks c → c'.held ≡ c.held → IsCutting cmp s blocks c'
  cutting_same cmp h held =
      let size = ap length tail in
      record {
        least = h.least;
        most = h.most;
        row = subst (IsSegmentRow blocks s) (sym row) h.row;
        room = (let room = h.room in omega (arith, size, room));
        rising = subst (IsAscending cmp) (sym given_same) h.rising;
        held = subst (λ (r : Row K V). IsHeld blocks r.parts.items c'.held) (sym row) (subst (IsHeld blocks c.row.parts.items) (sym held) h.held);
        fresh = λ none. subst (λ (r : Row K V). (r.last ≡ 0) ⊎ (r.last ≡ s)) (sym row) (h.fresh (sym held ∙ none));
      }

  pub counts_same : c'.length ≡ c.length → CountsGiven blocks c c'
  counts_same count = let all = ap length given_same in omega (arith, count, all)

  pub filled_same : (left : ℕ) → GivesNoMoreThanRead s left left c c'
  filled_same left =
      let made = ap (λ (r : Row K V). made_in r.parts.items) row in
      let full = ap (λ n. s * n) made in
      let size = ap length tail in
      record {
        spent = omega (arith, full, size);
        some = λ some. omega (arith, size, some);
        none = λ none. made;
      }

-- nothing was given
pub cutting_none : {K V : Type 0} (cmp : K → K → Ordering) (s : ℕ) (blocks : List (List (K × V))) (c : SegmentBuilder K V) → 1 ≤ s → s ≤ 225 → c.row.parts.items ≡ [] → c.row.last ≡ 0 → c.held ≡ None → c.tail.pairs ≡ [] → IsCutting cmp s blocks c
cutting_none {K} {V} cmp s blocks c least most parts' last held tail =
    let none = ap (blocks_of_parts blocks) parts' in
    let empty : given_pairs blocks c ≡ [] = ap (λ bs. pairs_in bs ++ c.tail.pairs) none ∙ tail in
    record {
      least = least;
      most = most;
      row = record {
        sizes = subst (All (IsSegmentSized s)) (sym none) (All-nil (IsSegmentSized s));
        tight = subst (IsTight s) (sym none) tt;
        last = last ∙ ap last_size (sym none);
        within = subst (All (LiesWithin (length blocks))) (sym parts') (All-nil (LiesWithin (length blocks)));
      };
      room = (let z = ap length tail in omega (arith, z));
      rising = subst (IsAscending cmp) (sym empty) (rising_none V cmp);
      held = subst (IsHeld blocks c.row.parts.items) (sym held) tt;
      fresh = λ e. inl last;
    }
