use Rattle.std.proofs.Common.{◌≡◌, ◌++◌, ◌∷◌, [], None, refl, sym, ap, ◌∙◌}
use Rattle.std.specs.List.{slice_get}
use Rattle.serial_history.specs.Parts.{has_room}
use Rattle.serial_history.specs.RemainingPairs.{remaining_of}
use Rattle.serial_history.proofs.PartLemmas.{all_turned, full_turned, left_at_first, one_more}
use Rattle.serial_history.proofs.RemainingPairsLemmas.{done_all}
use Rattle.serial_history.proofs.StepLemmas.{fewer_left, one_given}
use Rattle.serial_history.proofs.scan.given.Goals as goal

pub returns-in_default : goal.returns-in_default
returns-in_default g c =
    let first : slice_get (remaining_of g.K.Ord.cmp c.args.part (g.C.PairCursor.cursor c.copying.cursor)) 0 ≡ None = sym c.in_default.ensures.first in
    all_turned c.args.part c.copying.copy.items _
    (done_all c.copying.copy.items (remaining_of g.K.Ord.cmp c.args.part (g.C.PairCursor.cursor c.copying.cursor)) _ c.copying.invariant.given first ∙ left_at_first g.met.K.Ord.total c.args.part (g.C.PairCursor.cursor c.args.cursor) c.requires.start)
    c.copying.invariant.few

pub returns : goal.returns
returns g c =
    full_turned c.args.part c.copying.copy.items (remaining_of g.K.Ord.cmp c.args.part (g.C.PairCursor.cursor c.copying.cursor)) _
    (c.copying.invariant.given ∙ left_at_first g.met.K.Ord.total c.args.part (g.C.PairCursor.cursor c.args.cursor) c.requires.start)
    c.copying.invariant.few
    (ap (has_room c.args.part) (sym (c.len.ensures ∙ c.copying.copy.ok.0)) ∙ sym c.has_room.ensures ∙ c.copying-test.false)

pub copying-preserved : goal.copying-preserved
copying-preserved g c =
    let left = remaining_of g.K.Ord.cmp c.args.part (g.C.PairCursor.cursor c.copying.cursor) in
    let copy = c.copying.copy.items in
    let pair : g.row.K.Denot × g.row.V.Denot = (c.in-Some.key.now, c.in-Some.value.now) in
    let longer = c.in_ok-push.ensures.items ∙ ap (λ p. copy ++ p ∷ []) c.in_ok-copied_pair.ensures in
    record {
      alone = c.give.ensures.alone;
      given = ap (λ xs. xs ++ remaining_of g.K.Ord.cmp c.args.part (g.C.PairCursor.cursor c.give.new.cursor)) longer ∙ ap (λ xs. (copy ++ pair ∷ []) ++ xs) (c.in-Some.ensures.left refl)
          ∙ one_given copy left pair c.in-Some.ensures.first ∙ c.copying.invariant.given;
      few = one_more c.args.part copy c.push.new.self.items pair longer (ap (has_room c.args.part) (sym (c.len.ensures ∙ c.copying.copy.ok.0)) ∙ sym c.has_room.ensures ∙ c.copying-test.true);
    }

pub copying-smaller : goal.copying-smaller
copying-smaller g c =
    let left = remaining_of g.K.Ord.cmp c.args.part (g.C.PairCursor.cursor c.copying.cursor) in
    fewer_left left _ (c.in-Some.key.now, c.in-Some.value.now) c.in-Some.ensures.first (c.in-Some.ensures.left refl)
