use Rattle.std.proofs.Common.{◌≡◌, refl, sym, ap, None}
use Rattle.std.specs.List.{slice_get}
use Rattle.serial_history.specs.RemainingPairs.{remaining_pairs}
use Rattle.serial_history.proofs.ReplayLemmas.{gathered_more, left_whole}
use Rattle.serial_history.proofs.RemainingPairsLemmas.{done_all}
use Rattle.serial_history.proofs.StepLemmas.{fewer_left}
use Rattle.serial_history.proofs.replay.gathered.Goals as goal

pub gathering-init : goal.gathering-init
gathering-init g c = record {
  alone = c.requires.start.backward;
  given = rw c.new-list.ensures.empty (left_whole g.K.Ord.cmp (g.C.PairCursor.cursor c.args.cursor) c.requires.start c.requires.lower c.requires.upper);
}

pub gathering-preserved : goal.gathering-preserved
gathering-preserved g c =
    let i = c.gathering.invariant in
    let pair = c.in_ok-key.ensures in
    let more = gathered_more g.met.K.Ord.total c.gathering.list.pairs (remaining_pairs g.K.Ord.cmp (g.C.PairCursor.cursor c.gathering.cursor)) _ (c.in-Some.key.now, c.in-Some.value.now) i.given c.requires.start.rising (sym c.in-Some.ensures.first) in
    record {
      alone = c.next.ensures.alone;
      given = rw (c.in-Ok.ensures.upserted, ap (λ (p : _ × _). p.0) pair, ap (λ (p : _ × _). p.1) pair, c.in-Some.ensures.left refl) more;
    }

pub returns : goal.returns
returns g c =
    let first : slice_get (remaining_pairs g.K.Ord.cmp (g.C.PairCursor.cursor c.gathering.cursor)) 0 ≡ None = sym c.in_default.ensures.first in
    done_all c.gathering.list.pairs (remaining_pairs g.K.Ord.cmp (g.C.PairCursor.cursor c.gathering.cursor)) _ c.gathering.invariant.given first

pub gathering-smaller : goal.gathering-smaller
gathering-smaller g c =
    let left = remaining_pairs g.K.Ord.cmp (g.C.PairCursor.cursor c.gathering.cursor) in
    fewer_left left _ (c.in-Some.key.now, c.in-Some.value.now) c.in-Some.ensures.first (c.in-Some.ensures.left refl)
