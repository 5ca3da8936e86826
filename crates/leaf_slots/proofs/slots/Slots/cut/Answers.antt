use Rattle.std.proofs.Common.{arith, ap, ◌∙◌, length}
use Rattle.leaf_slots.proofs.CutLemmas.{length_lower, length_upper, lower_step, upper_step, lower_end, upper_end}
use Rattle.leaf_slots.proofs.slots.Slots.cut.Goals as goal

pub loop-from-preserved : goal.loop-from-preserved
loop-from-preserved g c =
    let inv = c.loop-from.invariant in
    record {
      begun = omega (arith, inv.begun);
      within = omega (arith, c.loop-from-test.true);
      mine = lower_step c.args.at c.loop-from.from c.args.self.now c.loop-from.self c.put-place.new.self c.requires.count inv.begun c.loop-from-test.true inv.mine c.put-place.ensures.places;
      others = upper_step c.args.at c.loop-from.from c.args.self.now c.loop-from.self c.loop-from.upper c.fill.new.self c.put-place.result c.requires.count inv.begun c.loop-from-test.true inv.mine c.put-place.ensures.old inv.others c.fill.ensures.places;
    }

pub returns-clause-lower : goal.returns-clause-lower
returns-clause-lower g c = lower_end c.args.at c.loop-from.from c.args.self.now c.loop-from.self c.requires.count c.loop-from-test.false c.loop-from.invariant.mine

pub returns-clause-upper : goal.returns-clause-upper
returns-clause-upper g c =
    upper_end c.args.at c.loop-from.from c.args.self.now c.loop-from.upper c.requires.count c.requires.within (omega (arith, c.loop-from-test.false, c.loop-from.invariant.within)) c.loop-from.invariant.others

pub returns-clause-lower_count : goal.returns-clause-lower_count
returns-clause-lower_count g c = ap length (returns-clause-lower g c) ∙ length_lower c.args.at c.args.self.now c.requires.count

pub returns-clause-upper_count : goal.returns-clause-upper_count
returns-clause-upper_count g c = ap length (returns-clause-upper g c) ∙ length_upper c.args.at c.args.self.now c.requires.count
