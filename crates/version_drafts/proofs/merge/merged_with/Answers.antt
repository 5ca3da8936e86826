use Rattle.std.proofs.Common.{◌*◌, ◌+◌, false, not, length, sym, ap, ◌∙◌, ◌++◌, subst, arith}
use Rattle.std.proofs.lemmas.Bool.{false≢true}
use Rattle.std.proofs.lemmas.List.{drop_all}
use Rattle.leaf_array.specs.Pairs.{IsAscending}
use Rattle.version_drafts.specs.Changes.{apply_delta}
use Rattle.version_views.specs.Cuts.{pairs_in}
use Rattle.version_drafts.specs.Cutting.{given_pairs}
use Rattle.version_drafts.specs.Gone.{is_gone, without_gone}
use Rattle.version_drafts.proofs.DeltaLemmas.{rising_amended}
use Rattle.version_views.proofs.FilterLemmas.{rising_kept}
use Rattle.version_drafts.proofs.GapLemmas.{turns_gone}
use Rattle.version_drafts.proofs.MergeLemmas.{trees_behind}
use Rattle.version_drafts.proofs.merge.merged_with.Goals as goal

pub loop-place-init : goal.loop-place-init
loop-place-init g c =
    let cmp = g.K.Ord.cmp in
    let left = ap length c.scan-left.ensures in
    let none = c.in_ok-out.ensures.none in
    let gone = c.args.gone.now in
    let old = pairs_in c.args.old.now in
    let turns' = turns_gone g.met.K.Ord.total gone old c.requires.whole.rising in
    record {
      whole = c.in_ok-out.ensures.whole;
      list = ap (λ ps. ps ++ apply_delta cmp c.scan-left.result (without_gone cmp gone old)) c.in_ok-out.ensures.empty ∙ ap (λ cs. apply_delta cmp cs (without_gone cmp gone old)) c.scan-left.ensures;
      thrifty = (
        false,
        record {
          all = (let z = none.0 in omega (arith, z, left, turns'));
          spare = λ z some b there fits. let last = none.1 in absurd (omega (arith, some, last));
          behind = λ e z. absurd (false≢true e);
        },
      );
      counted = c.in_ok-out.ensures.counted;
    }

pub pass-requires-clause-rising : goal.pass-requires-clause-rising
pass-requires-clause-rising g c =
    let cmp = g.K.Ord.cmp in
    let gone = c.args.gone.now in
    let old = pairs_in c.args.old.now in
    let up = rising_amended g.met.K.Ord.total c.args.edits.now (without_gone cmp gone old) c.len.ensures.rising (rising_kept cmp (λ k. not (is_gone cmp gone k)) old c.requires.whole.rising) in
    subst (IsAscending cmp) (sym c.loop-place.invariant.list) up

pub loop-place-preserved : goal.loop-place-preserved
loop-place-preserved g c =
    let i = c.loop-place.invariant in
    let e = c.in_ok-place.ensures in
    record {
      whole = e.whole;
      list = e.list ∙ i.list;
      thrifty = e.thrifty (2 * (length c.args.edits.now + length c.args.gone.now)) i.thrifty.0 i.thrifty.1;
      counted = e.counted;
    }

pub put_all-requires-clause-whole : goal.put_all-requires-clause-whole
put_all-requires-clause-whole g c = c.loop-place.invariant.whole

pub put_all-requires-clause-rising : goal.put_all-requires-clause-rising
put_all-requires-clause-rising g c =
    let cmp = g.K.Ord.cmp in
    let blocks = c.args.old.now in
    let gone = c.args.gone.now in
    let i = c.loop-place.invariant in
    let none = drop_all c.loop-place.place blocks (omega (arith, c.segment_count-count.ensures, c.loop-place-test.false)) in
    let given' = given_pairs c.args.old.now c.loop-place.out in
    let all = sym (ap (λ bs. given' ++ apply_delta cmp c.loop-place.left (without_gone cmp gone (pairs_in bs))) none) ∙ i.list in
    let up = rising_amended g.met.K.Ord.total c.args.edits.now (without_gone cmp gone (pairs_in blocks)) c.len.ensures.rising (rising_kept cmp (λ k. not (is_gone cmp gone k)) (pairs_in blocks) c.requires.whole.rising) in
    subst (IsAscending cmp) (sym all) up

pub returns-clause-list : goal.returns-clause-list
returns-clause-list g c =
    let cmp = g.K.Ord.cmp in
    let blocks = c.args.old.now in
    let i = c.loop-place.invariant in
    let none = drop_all c.loop-place.place blocks (omega (arith, c.segment_count-count.ensures, c.loop-place-test.false)) in
    let given' = given_pairs c.args.old.now c.loop-place.out in
    let all = sym (ap (λ bs. given' ++ apply_delta cmp c.loop-place.left (without_gone cmp c.args.gone.now (pairs_in bs))) none) ∙ i.list in
    c.in_ok-segments.ensures.list ∙ (c.in_ok-put_all.ensures.list ∙ all)

pub returns-clause-few : goal.returns-clause-few
returns-clause-few g c =
    let i = c.loop-place.invariant in
    let up = trees_behind g.row.S i.whole.least c.loop-place.out c.put_all.new.out (length c.loop-place.left) i.whole.room c.in_ok-put_all.ensures.filled in
    let all = i.thrifty.1.all in
    let made = c.in_ok-segments.ensures.made in
    omega (arith, up, all, made)

pub begun-requires : goal.begun-requires
begun-requires g c = c.requires.size

pub pass-requires-clause-keys : goal.pass-requires-clause-keys
pass-requires-clause-keys g c = c.requires.keys

pub pass-requires-clause-values : goal.pass-requires-clause-values
pass-requires-clause-values g c = c.requires.values

pub pass-requires-clause-old : goal.pass-requires-clause-old
pass-requires-clause-old g c = c.requires.whole

pub pass-requires-clause-spans : goal.pass-requires-clause-spans
pass-requires-clause-spans g c = c.requires.spans

pub pass-requires-clause-within : goal.pass-requires-clause-within
pass-requires-clause-within g c = omega (arith, c.segment_count-count.ensures, c.loop-place-test.true)

pub pass-requires-clause-whole : goal.pass-requires-clause-whole
pass-requires-clause-whole g c = c.loop-place.invariant.whole

pub loop-place-smaller : goal.loop-place-smaller
loop-place-smaller g c = omega (arith, c.loop-place-test.true, c.in_ok-place.ensures.behind)

pub put_all-requires-clause-keys : goal.put_all-requires-clause-keys
put_all-requires-clause-keys g c = c.requires.keys

pub put_all-requires-clause-values : goal.put_all-requires-clause-values
put_all-requires-clause-values g c = c.requires.values

pub finish-requires-clause-keys : goal.finish-requires-clause-keys
finish-requires-clause-keys g c = c.requires.keys

pub finish-requires-clause-values : goal.finish-requires-clause-values
finish-requires-clause-values g c = c.requires.values

pub pass-requires-clause-counted : goal.pass-requires-clause-counted
pass-requires-clause-counted g c = c.loop-place.invariant.counted

-- behind all segments nothing is yet to come
pub finish-requires-clause-counted : goal.finish-requires-clause-counted
finish-requires-clause-counted g c =
    let blocks = c.args.old.now in
    let none = drop_all c.loop-place.place blocks (omega (arith, c.segment_count-count.ensures, c.loop-place-test.false)) in
    let ahead' = ap (λ bs. length (pairs_in bs)) none in
    omega (arith, c.loop-place.invariant.counted, c.in_ok-put_all.ensures.counted, ahead')

pub finish-requires-clause-whole : goal.finish-requires-clause-whole
finish-requires-clause-whole g c = c.in_ok-put_all.ensures.whole

pub returns-clause-cut : goal.returns-clause-cut
returns-clause-cut g c = c.in_ok-segments.ensures.cut

pub returns-clause-length : goal.returns-clause-length
returns-clause-length g c = c.in_ok-segments.ensures.length
