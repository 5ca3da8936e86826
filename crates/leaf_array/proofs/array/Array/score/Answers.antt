use Rattle.std.proofs.Common.{arith}
use Rattle.leaf_array.proofs.WordLemmas.{score_reached, score_passed, order_end}
use Rattle.leaf_array.proofs.array.Array.score.Goals as goal
use Rattle.leaf_array.proofs.array.Array.score.Goals.{then-rank-gt0, else-rank-gt0}

pub loop-place-preserved : goal.loop-place-preserved
loop-place-preserved g c =
    elim c.if-rank-gt0.branch [
      | then-rank-gt0 w ↦ record {
        rest = rw (w.score-is, w.before-is) (score_reached c.loop-place.score c.loop-place.before c.loop-place.place c.slot_of.result c.rank_of-rank.result w.risen.result _ c.args.self.now.labels
            c.loop-place-test.true c.slot_of.ensures.slot c.rank_of-rank.ensures.rank w.if-rank-gt0.true w.risen.ensures.rise c.loop-place.invariant.rest);
        within = omega (arith, w.score-is, w.risen.ensures.within, c.loop-place.invariant.within);
      }
      | else-rank-gt0 w ↦ record {
        rest = rw (w.score-is, w.before-is) (score_passed c.loop-place.score c.loop-place.before c.loop-place.place c.slot_of.result c.rank_of-rank.result _ c.args.self.now.labels
            c.loop-place-test.true c.slot_of.ensures.slot c.rank_of-rank.ensures.rank w.if-rank-gt0.false c.loop-place.invariant.rest);
        within = omega (arith, w.score-is, c.loop-place.invariant.within);
      }
    ]

pub returns-clause-score : goal.returns-clause-score
returns-clause-score g c = let a = c.loop-place-test in omega (arith, c.loop-place.invariant.rest, order_end c.loop-place.place c.loop-place.before c.args.self.now.labels c.loop-place-test.false)
