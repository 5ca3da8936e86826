use Rattle.std.proofs.Common.{◌≡◌, ◌+◌, ◌-◌, ◌<◌, ◌≤◌, ◌++◌, ◌∷◌, drop, length, take, subst, arith}
use Rattle.leaf_slots.specs.Places.{lined, live_pairs}
use Rattle.leaf_slots.proofs.ExtendLemmas.{behind_head, past_head}
use Rattle.leaf_slots.proofs.row.extend.LinkExtendAligned.extend_aligned.Goals as goal

pub returns-then-skip-gt0-clause-places : goal.returns-then-skip-gt0-clause-places
returns-then-skip-gt0-clause-places g c =
    let some : 0 < c.args.skip = omega (arith, c.if-skip-gt0.true) in
    let head = c.args.self.now.head in
    let was = g.R.ExtendAligned.places c.args.self.now.rest in
    let now = g.R.ExtendAligned.places c.extend_aligned.new.self in
    let skip = c.args.skip in
    let done = c.extend_aligned.result in
    let ps = g.R.ExtendAligned.places c.args.source.now.rest in
    let within : skip ≤ length (live_pairs (c.args.source.now.head ∷ ps)) = omega (arith, c.requires.within) in
    subst (λ zs. head ∷ now ≡ take skip (head ∷ was) ++ (lined (c.args.bitmap + skip) (take done zs) ++ drop (skip + done) (head ∷ was)))
    (past_head c.args.source.now.head ps skip some within)
    (behind_head head was now skip c.args.bitmap done (take done (drop (skip - 1) (live_pairs ps))) some c.extend_aligned.ensures.places)
