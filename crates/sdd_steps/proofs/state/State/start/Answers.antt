use Rattle.sdd_steps.proofs.Law.{starts_as}
use Rattle.sdd_steps.proofs.state.State.start.Goals as goal

pub invariant_of-result : goal.invariant_of-result
invariant_of-result c = starts_as c.loop-p.all.items c.loop-c.row.items c.new-2.result.items c.args.participants c.loop-c._c c.loop-c.invariant.0 c.loop-c.invariant.1 c.new-2.ensures.items
