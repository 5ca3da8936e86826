use Rattle.std.proofs.Common.{refl, sym, ap, ◌∙◌, ◌++◌, ◌+◌, ◌<◌, ◌≤◌, take, length, arith}
use Rattle.std.specs.List.{slice_get}
use Rattle.std.proofs.lemmas.List.{take_all}
use Rattle.serial_history.specs.Parts.{turned}
use Rattle.serial_history.specs.RemainingPairs.{remaining_of}
use Rattle.serial_history.proofs.PartLemmas.{found_some, take_next, turned_at, turned_length}
use Rattle.serial_history.proofs.RemainingPairsLemmas.{differs}
use Rattle.version_views.proofs.OptionLemmas.{at_some}
use Rattle.serial_history.proofs.scan.gives.Goals as goal

pub returns-then-not-is_pair-clause-differs : goal.returns-then-not-is_pair-clause-differs
returns-then-not-is_pair-clause-differs g c =
    let told = turned c.args.part c.args.told.now in
    let inside : c.loop-i.i < length told = omega (arith, c.loop-i-test.true, turned_length c.args.part c.args.told.now) in
    let stood = at_some c.place.result c.args.told.now c.index-told-place.result c.index-told-place.result c.place.ensures.within c.index-told-place.is in
    let there = turned_at c.args.part c.args.told.now c.loop-i.i c.loop-i-test.true ∙ ap (slice_get c.args.told.now) (sym c.place.ensures.place) ∙ stood in
    differs c.loop-i.i told (remaining_of g.K.Ord.cmp c.args.part (g.C.PairCursor.cursor c.loop-i.cursor)) _ c.loop-i.invariant.given inside
    (λ first. let t = c.if-not-is_pair.ensures.1 (c.give.ensures.first ∙ first ∙ there) in cc)

pub loop-i-preserved : goal.loop-i-preserved
loop-i-preserved g c =
    let told = turned c.args.part c.args.told.now in
    let inside : c.loop-i.i < length told = omega (arith, c.loop-i-test.true, turned_length c.args.part c.args.told.now) in
    let stood = at_some c.place.result c.args.told.now c.index-told-place.result c.index-told-place.result c.place.ensures.within c.index-told-place.is in
    let there = turned_at c.args.part c.args.told.now c.loop-i.i c.loop-i-test.true ∙ ap (slice_get c.args.told.now) (sym c.place.ensures.place) ∙ stood in
    let found = c.if-not-is_pair.ensures.0 refl in
    record {
      alone = c.give.ensures.alone;
      given = ap (λ xs. take (c.loop-i.i + 1) told ++ xs) (c.give.ensures.left (found_some c.give.result _ found))
          ∙ take_next c.loop-i.i told (remaining_of g.K.Ord.cmp c.args.part (g.C.PairCursor.cursor c.loop-i.cursor)) inside (sym c.give.ensures.first ∙ found ∙ sym there) ∙ c.loop-i.invariant.given;
    }

pub returns-clause-given : goal.returns-clause-given
returns-clause-given g c = λ t.
    let told = turned c.args.part c.args.told.now in
    let all : length told ≤ c.loop-i.i = omega (arith, c.loop-i-test.false, turned_length c.args.part c.args.told.now) in
    ap (λ xs. xs ++ remaining_of g.K.Ord.cmp c.args.part (g.C.PairCursor.cursor c.loop-i.cursor)) (sym (take_all c.loop-i.i told all)) ∙ c.loop-i.invariant.given
