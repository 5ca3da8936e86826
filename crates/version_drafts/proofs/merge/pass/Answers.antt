use Rattle.std.proofs.Common.{◌≡◌, ◌++◌, ◌+◌, ◌-◌, ◌≤◌, length-append, true, false, not, inl, inr, drop, length, slice_get, refl, sym, ap, ◌∙◌, subst, arith}
use Rattle.std.proofs.lemmas.Bool.{false≢true, cases_lt}
use Rattle.std.proofs.lemmas.Bool.Decides.{eqb_tells}
use Rattle.leaf_array.specs.Pairs.{IsAscending}
use Rattle.tree_index.specs.Shape.{AllKeys}
use Rattle.version_drafts.specs.Changes.{ahead, apply_delta}
use Rattle.version_views.specs.Cuts.{pairs_in}
use Rattle.version_drafts.specs.Cutting.{IsPassedBy, IsReachedBy, IsSegmentSized, Joins, given_pairs, turn_count}
use Rattle.version_drafts.specs.Parts.{between}
use Rattle.version_drafts.specs.Gone.{is_gone, without_gone}
use Rattle.version_views.proofs.FilterLemmas.{kept_upto, on_test}
use Rattle.version_drafts.proofs.CuttingLemmas.{cutting_same, given_same}
use Rattle.version_drafts.proofs.GapLemmas.{all_alike, alike_turns, last_answer, turns_both}
use Rattle.version_drafts.proofs.MergeLemmas.{all_slice, first_behind, pairs_behind_rise, rising_part, taken, thrifty_joined, thrifty_none, thrifty_paid, thrifty_passed, thrifty_same, tight_at}
use Rattle.version_drafts.proofs.RangeLemmas.{without_all, without_any, without_covered}
use Rattle.version_views.proofs.SeparatorSearchLemmas.{get_some}
use Rattle.version_views.proofs.ChangeScanLemmas.{block_at}
use Rattle.version_drafts.proofs.StretchLemmas.{each_from, pairs_behind_stretch, pairs_between, some_between, stretch_ahead, stretch_turns}
use Rattle.version_drafts.proofs.merge.pass.Goals as goal

-- ---- one that is covered

pub returns-then-covers-clause-list : goal.returns-then-covers-clause-list
returns-then-covers-clause-list g c =
    let cmp = g.K.Ord.cmp in
    let blocks = c.args.old.now in
    let gone = c.args.gone.now in
    let b = get_some blocks c.args.place c.requires.within in
    let none : without_gone cmp gone (pairs_in (drop c.args.place blocks)) ≡ without_gone cmp gone (pairs_in (drop (c.args.place + 1) blocks)) = ap (without_gone cmp gone) (block_at c.args.place blocks b.0 (sym b.1)) ∙ without_covered cmp gone b.0 (pairs_in (drop (c.args.place + 1) blocks)) (c.if-covers.ensures refl b.0 b.1) in
    let e = c.count_out.ensures in
    let rest = apply_delta cmp c.args.changes.now (without_gone cmp gone (pairs_in (drop (c.args.place + 1) blocks))) in
    ap (λ ps. ps ++ rest) (given_same blocks g.row.S c.args.out.now c.count_out.new.out e.row e.tail) ∙ ap (λ ps. given_pairs blocks c.args.out.now ++ apply_delta cmp c.args.changes.now ps) (sym none)

pub returns-then-covers-clause-whole : goal.returns-then-covers-clause-whole
returns-then-covers-clause-whole g c =
    let e = c.count_out.ensures in
    cutting_same c.args.old.now g.row.S c.args.out.now c.count_out.new.out e.row e.tail g.K.Ord.cmp c.requires.whole e.held

pub returns-then-covers-clause-thrifty : goal.returns-then-covers-clause-thrifty
returns-then-covers-clause-thrifty g c = λ budget last t.
    let cmp = g.K.Ord.cmp in
    let blocks = c.args.old.now in
    let gone = c.args.gone.now in
    let b = get_some blocks c.args.place c.requires.within in
    let sized = all_slice (IsSegmentSized g.row.S) blocks c.args.place b.0 c.requires.old.sizes b.1 in
    let turned = ap (turn_count (is_gone cmp gone) last) (block_at c.args.place blocks b.0 (sym b.1)) ∙ alike_turns (is_gone cmp gone) last true b.0 (pairs_in (drop (c.args.place + 1) blocks)) sized.0 (c.if-covers.ensures refl b.0 b.1) in
    let e = c.count_out.ensures in
    (true, thrifty_same g.row.S c.args.out.now c.count_out.new.out e.row e.tail budget (length c.args.changes.now) (is_gone cmp gone) true (drop (c.args.place + 1) blocks) (thrifty_passed g.row.S budget (length c.args.changes.now) (is_gone cmp gone) last (drop c.args.place blocks) (drop (c.args.place + 1) blocks) c.args.out.now turned t))

-- ---- one that is merged

pub merge_segment-requires-clause-sorted : goal.merge_segment-requires-clause-sorted
merge_segment-requires-clause-sorted g c = pairs_behind_rise g.K.Ord.cmp c.args.place c.args.old.now c.requires.old.rising

pub merge_segment-requires-then-joins-clause-sorted : goal.merge_segment-requires-then-joins-clause-sorted
merge_segment-requires-then-joins-clause-sorted g c = pairs_behind_rise g.K.Ord.cmp c.args.place c.args.old.now c.requires.old.rising

pub returns-then-touches-clause-thrifty : goal.returns-then-touches-clause-thrifty
returns-then-touches-clause-thrifty g c = λ budget last t.
    let cmp = g.K.Ord.cmp in
    let blocks = c.args.old.now in
    let gone = c.args.gone.now in
    let test = is_gone cmp gone in
    let found = get_some blocks c.args.place c.requires.within in
    let b = found.0 in
    let here = sym found.1 in
    let sized = all_slice (IsSegmentSized g.row.S) blocks c.args.place b c.requires.old.sizes found.1 in
    let fewer' = kept_upto (λ k. not (test k)) b in
    let e = c.in_ok-merge_segment.ensures in
    let rest = drop c.args.place blocks in
    let rest' = drop (c.args.place + 1) blocks in
    let next = last_answer test last b in
    let turned : turn_count test last (pairs_in rest) ≡ turn_count test last b + turn_count test next (pairs_in rest') = ap (turn_count test last) (block_at c.args.place blocks b here) ∙ turns_both test last b (pairs_in rest') in
    let left = length c.args.changes.now in
    let left' = length c.merge_segment.new.changes in
    let n = length (without_gone cmp gone b) in
    let small : n ≤ g.row.S = omega (arith, fewer', sized.1) in
    let fewer = e.fewer in
    let paid = thrifty_paid g.row.S c.requires.whole.least c.args.out.now c.merge_segment.new.out budget n left left' test last next rest rest' small c.requires.whole.room t (e.filled b here) fewer in
    let none = thrifty_none g.row.S c.requires.whole.least c.args.out.now c.merge_segment.new.out budget n left left' test last next rest rest' small c.requires.whole.room t (e.filled b here) fewer in (
      next,
      elim (cases_lt left' left) [
        | inl less ↦ paid (omega (arith, less, turned))
        | inr same ↦ elim (eqb_tells (turn_count test last b) 0) [
          | inr some ↦ let more = some.1 in paid (omega (arith, more, turned, fewer))
          | inl z ↦
              let alike = all_alike test last b z.1 in
              on_test last
              (λ gone'. let all = subst (λ v. AllKeys (λ k. test k ≡ v) b) gone' alike in
              none (ap length (without_any cmp gone b all)) (omega (arith, same, fewer)) gone' (let zero' = z.1 in omega (arith, turned, zero')))
              (λ kept'. let all = subst (λ v. AllKeys (λ k. test k ≡ v) b) kept' alike in
              elim (c.if-touches.ensures.touched refl b here) [
                | inl reached ↦ let less = e.reached b here (subst (IsReachedBy cmp c.args.changes.now) (sym (without_all cmp gone b all)) reached) in absurd (omega (arith, less, same))
                | inr some ↦ absurd (some all)
              ])
        ]
      ],
    )

-- ---- one that is joined with what comes before it

pub returns-then-joins-clause-thrifty : goal.returns-then-joins-clause-thrifty
returns-then-joins-clause-thrifty g c = λ budget last t.
    let cmp = g.K.Ord.cmp in
    let blocks = c.args.old.now in
    let gone = c.args.gone.now in
    let test = is_gone cmp gone in
    let b = c.segment_near-row.result.0.now.pairs in
    let here = c.segment_near-row.ensures in
    let sized = all_slice (IsSegmentSized g.row.S) blocks c.args.place b c.requires.old.sizes (sym here) in
    let apart = (c.if-touches.ensures.passed refl b here).1 in
    let same = ap length (without_all cmp gone b apart) in
    let e = c.in_ok-merge_segment-2.ensures in
    let rest = drop c.args.place blocks in
    let rest' = drop (c.args.place + 1) blocks in
    let turned : turn_count test last (pairs_in rest) ≡ _ = ap (turn_count test last) (block_at c.args.place blocks b here) ∙ alike_turns test last false b (pairs_in rest') sized.0 apart in
    let n = length (without_gone cmp gone b) in
    let size = c.len.ensures.count in
    let joins = subst (λ m. Joins g.row.S m c.args.out.now) (size ∙ sym same) (c.if-joins.ensures.0 refl) in
    (false, thrifty_joined g.row.S c.requires.whole.least c.args.out.now c.merge_segment-then-joins.new.out budget n _ _ test last false rest rest' (omega (arith, same, sized.1)) c.requires.whole.room t (e.filled b here) e.fewer refl (omega (arith, turned)) joins b (first_behind c.args.place blocks ∙ sym here) (sym same))

-- ---- a stretch that is taken over

pub stretch_end-end-requires-clause-ordered : goal.stretch_end-end-requires-clause-ordered
stretch_end-end-requires-clause-ordered g c = let cut = c.requires.old in record { some = λ k e h. (cut.sizes k e h).0; rising = cut.rising; separated = cut.separated }

pub take_stretch-requires-clause-apart : goal.take_stretch-requires-clause-apart
take_stretch-requires-clause-apart g c =
    let cmp = g.K.Ord.cmp in
    let blocks = c.args.old.now in
    let gone = c.args.gone.now in
    let place = c.args.place in
    let end = c.stretch_end-end.result in
    let b = c.segment_near-row.result.0.now.pairs in
    let seg = c.segment_near-row.ensures in
    let cs = c.args.changes.now in
    let out = c.args.out.now in
    let less = c.stretch_end-end.ensures.from in
    let each = each_from (λ d. IsPassedBy cmp cs d × AllKeys (λ k. is_gone cmp gone k ≡ false) d) blocks place end (c.if-touches.ensures.passed refl) c.stretch_end-end.ensures.passed in
    let le : place ≤ end = omega (arith, less) in
    let given' = given_pairs c.args.old.now out in
    let up : IsAscending cmp (given' ++ pairs_in (between place end blocks)) = rising_part cmp given' (pairs_in (between place end blocks)) (apply_delta cmp cs (without_gone cmp gone (pairs_in (drop end blocks)))) (ahead cmp cs gone place blocks) (stretch_ahead g.met.K.Ord.total blocks cs gone place end le each) c.requires.rising in
    let size = c.len.ensures.count in
    let not_joined : Joins g.row.S (length b) out → ⊥ = λ j. false≢true (c.if-joins.ensures.1 (subst (λ n. Joins g.row.S n out) (sym size) j)) in
    record {
      block = b;
      there = sym seg;
      sized = all_slice (IsSegmentSized g.row.S) blocks place b c.requires.old.sizes (sym seg);
      rising = rising_part cmp given' b (pairs_in (between (place + 1) end blocks)) (pairs_in (between place end blocks)) (pairs_between blocks place end b (omega (arith, less)) seg) up;
      closed = λ z some. elim (cases_lt g.row.S (out.row.last + length b)) [
        | inl more ↦ more
        | inr fits ↦ absurd (not_joined (inl (z, some, fits)))
      ];
      opened = λ some. elim (cases_lt g.row.S (length out.tail.pairs + length b)) [
        | inl more ↦ more
        | inr fits ↦ absurd (not_joined (inr (some, fits)))
      ];
    }

pub take_stretch-requires-clause-rising : goal.take_stretch-requires-clause-rising
take_stretch-requires-clause-rising g c =
    let cmp = g.K.Ord.cmp in
    let blocks = c.args.old.now in
    let gone = c.args.gone.now in
    let place = c.args.place in
    let end = c.stretch_end-end.result in
    let cs = c.args.changes.now in
    let less = c.stretch_end-end.ensures.from in
    let each = each_from (λ d. IsPassedBy cmp cs d × AllKeys (λ k. is_gone cmp gone k ≡ false) d) blocks place end (c.if-touches.ensures.passed refl) c.stretch_end-end.ensures.passed in
    let le : place ≤ end = omega (arith, less) in
    rising_part cmp (given_pairs c.args.old.now c.args.out.now) (pairs_in (between place end blocks)) (apply_delta cmp cs (without_gone cmp gone (pairs_in (drop end blocks)))) (ahead cmp cs gone place blocks) (stretch_ahead g.met.K.Ord.total blocks cs gone place end le each) c.requires.rising

pub returns-clause-list : goal.returns-clause-list
returns-clause-list g c =
    let cmp = g.K.Ord.cmp in
    let blocks = c.args.old.now in
    let gone = c.args.gone.now in
    let place = c.args.place in
    let end = c.stretch_end-end.result in
    let cs = c.args.changes.now in
    let less = c.stretch_end-end.ensures.from in
    let each = each_from (λ d. IsPassedBy cmp cs d × AllKeys (λ k. is_gone cmp gone k ≡ false) d) blocks place end (c.if-touches.ensures.passed refl) c.stretch_end-end.ensures.passed in
    let le : place ≤ end = omega (arith, less) in
    taken (given_pairs blocks c.args.out.now) (given_pairs blocks c.take_stretch.new.out) (pairs_in (between place end blocks)) (apply_delta cmp cs (without_gone cmp gone (pairs_in (drop end blocks)))) (ahead cmp cs gone place blocks) c.in_ok-take_stretch.ensures.pairs (stretch_ahead g.met.K.Ord.total blocks cs gone place end le each)

pub returns-clause-thrifty : goal.returns-clause-thrifty
returns-clause-thrifty g c = λ budget last t.
    let cmp = g.K.Ord.cmp in
    let blocks = c.args.old.now in
    let gone = c.args.gone.now in
    let place = c.args.place in
    let end = c.stretch_end-end.result in
    let b = c.segment_near-row.result.0.now.pairs in
    let seg = c.segment_near-row.ensures in
    let cs = c.args.changes.now in
    let less = c.stretch_end-end.ensures.from in
    let within = c.stretch_end-end.ensures.within in
    let each = each_from (λ d. IsPassedBy cmp cs d × AllKeys (λ k. is_gone cmp gone k ≡ false) d) blocks place end (c.if-touches.ensures.passed refl) c.stretch_end-end.ensures.passed in
    let le : place ≤ end = omega (arith, less) in
    let sized = all_slice (IsSegmentSized g.row.S) blocks place b c.requires.old.sizes (sym seg) in
    let turned = stretch_turns g.met.K.Ord.total blocks cs gone place end le each last (some_between blocks place end b (omega (arith, less)) seg sized.0) in
    let same = c.in_ok-take_stretch.ensures.trees in
    let before = get_some blocks (end - 1) (omega (arith, less, within)) in
    let next : end - 1 + 1 ≡ end = omega (arith, less) in
    let size = c.in_ok-take_stretch.ensures.last before.0 (sym before.1) in (
      false,
      record {
        all = (let all = t.all in omega (arith, same, all, turned));
        spare = λ z some d there fits.
            let more = tight_at g.row.S blocks (end - 1) before.0 d c.requires.old.tight before.1 (ap (slice_get blocks) next ∙ (sym (first_behind end blocks) ∙ there)) in
            absurd (omega (arith, more, size, fits));
        behind = λ e z. absurd (false≢true e);
      },
    )

pub returns-then-covers-clause-behind : goal.returns-then-covers-clause-behind
returns-then-covers-clause-behind g c = omega arith

pub touches-requires-clause-old : goal.touches-requires-clause-old
touches-requires-clause-old g c = c.requires.old

pub touches-requires-clause-spans : goal.touches-requires-clause-spans
touches-requires-clause-spans g c = c.requires.spans

pub touches-requires-clause-there : goal.touches-requires-clause-there
touches-requires-clause-there g c = c.segment_near-row.ensures

pub touches-requires-clause-within : goal.touches-requires-clause-within
touches-requires-clause-within g c = c.requires.within

pub merge_segment-requires-clause-keys : goal.merge_segment-requires-clause-keys
merge_segment-requires-clause-keys g c = c.requires.keys

pub merge_segment-requires-clause-values : goal.merge_segment-requires-clause-values
merge_segment-requires-clause-values g c = c.requires.values

pub merge_segment-requires-clause-old : goal.merge_segment-requires-clause-old
merge_segment-requires-clause-old g c = c.requires.old

pub merge_segment-requires-clause-within : goal.merge_segment-requires-clause-within
merge_segment-requires-clause-within g c = c.requires.within

pub merge_segment-requires-clause-there : goal.merge_segment-requires-clause-there
merge_segment-requires-clause-there g c = c.segment_near-row.ensures

pub merge_segment-requires-clause-whole : goal.merge_segment-requires-clause-whole
merge_segment-requires-clause-whole g c = c.requires.whole

pub merge_segment-requires-clause-rising : goal.merge_segment-requires-clause-rising
merge_segment-requires-clause-rising g c = c.requires.rising

pub merge_segment-requires-then-joins-clause-keys : goal.merge_segment-requires-then-joins-clause-keys
merge_segment-requires-then-joins-clause-keys g c = c.requires.keys

pub merge_segment-requires-then-joins-clause-values : goal.merge_segment-requires-then-joins-clause-values
merge_segment-requires-then-joins-clause-values g c = c.requires.values

pub merge_segment-requires-then-joins-clause-old : goal.merge_segment-requires-then-joins-clause-old
merge_segment-requires-then-joins-clause-old g c = c.requires.old

pub merge_segment-requires-then-joins-clause-within : goal.merge_segment-requires-then-joins-clause-within
merge_segment-requires-then-joins-clause-within g c = c.requires.within

pub merge_segment-requires-then-joins-clause-there : goal.merge_segment-requires-then-joins-clause-there
merge_segment-requires-then-joins-clause-there g c = c.segment_near-row.ensures

pub merge_segment-requires-then-joins-clause-whole : goal.merge_segment-requires-then-joins-clause-whole
merge_segment-requires-then-joins-clause-whole g c = c.requires.whole

pub merge_segment-requires-then-joins-clause-rising : goal.merge_segment-requires-then-joins-clause-rising
merge_segment-requires-then-joins-clause-rising g c = c.requires.rising

pub returns-then-touches-clause-behind : goal.returns-then-touches-clause-behind
returns-then-touches-clause-behind g c = omega arith

pub returns-then-touches-clause-whole : goal.returns-then-touches-clause-whole
returns-then-touches-clause-whole g c = c.in_ok-merge_segment.ensures.whole

pub returns-then-touches-clause-list : goal.returns-then-touches-clause-list
returns-then-touches-clause-list g c = c.in_ok-merge_segment.ensures.list

pub returns-then-joins-clause-behind : goal.returns-then-joins-clause-behind
returns-then-joins-clause-behind g c = omega arith

pub returns-then-joins-clause-whole : goal.returns-then-joins-clause-whole
returns-then-joins-clause-whole g c = c.in_ok-merge_segment-2.ensures.whole

pub returns-then-joins-clause-list : goal.returns-then-joins-clause-list
returns-then-joins-clause-list g c = c.in_ok-merge_segment-2.ensures.list

pub stretch_end-end-requires-clause-spans : goal.stretch_end-end-requires-clause-spans
stretch_end-end-requires-clause-spans g c = c.requires.spans

pub stretch_end-end-requires-clause-within : goal.stretch_end-end-requires-clause-within
stretch_end-end-requires-clause-within g c = omega (arith, c.requires.within)

pub take_stretch-requires-clause-keys : goal.take_stretch-requires-clause-keys
take_stretch-requires-clause-keys g c = c.requires.keys

pub take_stretch-requires-clause-values : goal.take_stretch-requires-clause-values
take_stretch-requires-clause-values g c = c.requires.values

pub take_stretch-requires-clause-old : goal.take_stretch-requires-clause-old
take_stretch-requires-clause-old g c = c.requires.old

pub take_stretch-requires-clause-whole : goal.take_stretch-requires-clause-whole
take_stretch-requires-clause-whole g c = c.requires.whole

pub take_stretch-requires-clause-some : goal.take_stretch-requires-clause-some
take_stretch-requires-clause-some g c = omega (arith, c.stretch_end-end.ensures.from)

pub take_stretch-requires-clause-within : goal.take_stretch-requires-clause-within
take_stretch-requires-clause-within g c = c.stretch_end-end.ensures.within

pub returns-clause-behind : goal.returns-clause-behind
returns-clause-behind g c = omega (arith, c.stretch_end-end.ensures.from)

pub returns-clause-whole : goal.returns-clause-whole
returns-clause-whole g c = c.in_ok-take_stretch.ensures.whole

-- ---- what is counted

pub returns-then-covers-clause-counted : goal.returns-then-covers-clause-counted
returns-then-covers-clause-counted g c = c.count_out.ensures.counted

pub merge_segment-requires-clause-counted : goal.merge_segment-requires-clause-counted
merge_segment-requires-clause-counted g c = c.requires.counted

pub merge_segment-requires-then-joins-clause-counted : goal.merge_segment-requires-then-joins-clause-counted
merge_segment-requires-then-joins-clause-counted g c = c.requires.counted

pub returns-then-touches-clause-counted : goal.returns-then-touches-clause-counted
returns-then-touches-clause-counted g c = c.in_ok-merge_segment.ensures.counted

pub returns-then-joins-clause-counted : goal.returns-then-joins-clause-counted
returns-then-joins-clause-counted g c = c.in_ok-merge_segment-2.ensures.counted

-- the pairs of a stretch were yet to come, and are given
pub returns-clause-counted : goal.returns-clause-counted
returns-clause-counted g c =
    let blocks = c.args.old.now in
    let place = c.args.place in
    let end = c.stretch_end-end.result in
    let less = c.stretch_end-end.ensures.from in
    let stretch = pairs_in (between place end blocks) in
    let split = ap length (pairs_behind_stretch blocks place end (omega (arith, less))) ∙ length-append stretch (pairs_in (drop end blocks)) in
    let e = c.in_ok-take_stretch.ensures in
    let given' = ap length e.pairs ∙ length-append (given_pairs c.args.old.now c.args.out.now) stretch in
    omega (arith, c.requires.counted, e.length, split, given')
