use Rattle.std.proofs.Common.{◌≡◌, ◌+◌, ◌*◌, ◌<◌, ◌++◌, ◌∷◌, [], take, length, sym, ap, ◌∙◌, subst, arith}
use Rattle.std.proofs.lemmas.List.{take_all, take_more}
use Rattle.std.specs.List.{All}
use Rattle.leaf_array.specs.Pairs.{IsAscending}
use Rattle.version_views.specs.Cuts.{IsCut, pairs_in, separators_of}
use Rattle.version_drafts.specs.Parts.{LiesWithin, blocks_of_parts}
use Rattle.version_drafts.proofs.CuttingLemmas.{counts_on, counts_same, cutting_same, given_same}
use Rattle.version_drafts.proofs.ListedLemmas.{fewest, none_spent, pair_cloned, rising_taken, spent_same}
use Rattle.version_drafts.proofs.listed.cut_beside.Goals as goal

pub loop-pair-init : goal.loop-pair-init
loop-pair-init g c =
    let e = c.in_ok-expect.ensures in
    let begun = c.in_ok-out.out in
    let out = c.expect.new.out in
    record {
      whole = cutting_same c.args.old.now g.row.S begun out e.row e.tail g.K.Ord.cmp c.in_ok-out.ensures.whole e.held;
      given = given_same c.args.old.now g.row.S begun out e.row e.tail ∙ c.in_ok-out.ensures.empty;
      spent = spent_same g.row.S begun out e.row e.tail ∙ none_spent g.row.S begun c.in_ok-out.ensures.none.0;
      counted = counts_on c.args.old.now 0 begun out c.in_ok-out.ensures.counted (counts_same c.args.old.now g.row.S begun out e.row e.tail e.length);
    }

pub push-requires-clause-rising : goal.push-requires-clause-rising
push-requires-clause-rising g c =
    let pairs = c.args.pairs.now in
    let i = c.loop-pair.pair-index in
    let pair = c.pair-item.result in
    let key = c.requires.keys pair.0 c.in_ok-clone.field-0 c.in_ok-clone.ensures.cases in
    let value = c.requires.values pair.1 c.in_ok-clone-2.field-0 c.in_ok-clone-2.ensures.cases in
    let same = pair_cloned pair c.in_ok-clone.field-0 c.in_ok-clone-2.field-0 key value ∙ c.pair-item.is in
    let next = ap (λ ps. ps ++ (c.in_ok-clone.field-0, c.in_ok-clone-2.field-0) ∷ []) c.loop-pair.invariant.given ∙ ap (λ p. take i pairs ++ p ∷ []) same in
    subst (IsAscending g.K.Ord.cmp) (sym next) (rising_taken g.K.Ord.cmp pairs i pair c.requires.rising c.loop-pair-test.true)

pub loop-pair-preserved : goal.loop-pair-preserved
loop-pair-preserved g c =
    let pairs = c.args.pairs.now in
    let i = c.loop-pair.pair-index in
    let pair = c.pair-item.result in
    let key = c.requires.keys pair.0 c.in_ok-clone.field-0 c.in_ok-clone.ensures.cases in
    let value = c.requires.values pair.1 c.in_ok-clone-2.field-0 c.in_ok-clone-2.ensures.cases in
    let same = pair_cloned pair c.in_ok-clone.field-0 c.in_ok-clone-2.field-0 key value ∙ c.pair-item.is in
    let e = c.in_ok-push.ensures in
    record {
      whole = e.whole;
      given = e.pairs ∙ ap (λ ps. ps ++ (c.in_ok-clone.field-0, c.in_ok-clone-2.field-0) ∷ []) c.loop-pair.invariant.given ∙ ap (λ p. take i pairs ++ p ∷ []) same ∙ sym (take_more pairs i pair c.loop-pair-test.true);
      spent = e.spent ∙ ap (λ n. n + 1) c.loop-pair.invariant.spent;
      counted = counts_on c.args.old.now 0 c.loop-pair.out c.push.new.out c.loop-pair.invariant.counted e.counted;
    }

pub finish-requires-clause-counted : goal.finish-requires-clause-counted
finish-requires-clause-counted g c = let none = ap (λ bs. length (pairs_in bs)) c.requires.none in omega (arith, c.loop-pair.invariant.counted, none)

pub returns-clause-cut : goal.returns-clause-cut
returns-clause-cut g c = subst (λ bs. IsCut g.K.Ord.cmp g.row.S (blocks_of_parts bs c.in_ok-segments.segments.parts.items) (separators_of (blocks_of_parts bs c.in_ok-segments.segments.parts.items))) c.requires.none c.in_ok-segments.ensures.cut

pub returns-clause-list : goal.returns-clause-list
returns-clause-list g c = ap (λ bs. pairs_in (blocks_of_parts bs c.in_ok-segments.segments.parts.items)) (sym c.requires.none) ∙ c.in_ok-segments.ensures.list ∙ c.loop-pair.invariant.given ∙ take_all c.loop-pair.pair-index c.args.pairs.now c.loop-pair-test.false

pub returns-clause-within : goal.returns-clause-within
returns-clause-within g c = subst (λ bs. All (LiesWithin (length bs)) c.in_ok-segments.segments.parts.items) c.requires.none c.in_ok-segments.ensures.within

pub returns-clause-length : goal.returns-clause-length
returns-clause-length g c =
    let e = c.in_ok-segments.ensures in
    e.length ∙ ap length (e.list ∙ c.loop-pair.invariant.given ∙ take_all c.loop-pair.pair-index c.args.pairs.now c.loop-pair-test.false)

pub returns-clause-fewest : goal.returns-clause-fewest
returns-clause-fewest g c =
    let n = length c.args.pairs.now in
    let all = c.loop-pair-test.false in
    let upto = c.loop-pair.auto.pair-index-end in
    let many : c.loop-pair.pair-index ≡ n = omega (arith, all, upto) in
    subst (λ m. g.row.S * m < n + g.row.S) (sym c.in_ok-segments.ensures.made) (fewest g.row.S n c.loop-pair.out c.requires.size.0 (c.loop-pair.invariant.spent ∙ many))
