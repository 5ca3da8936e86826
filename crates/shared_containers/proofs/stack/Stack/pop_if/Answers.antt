use Rattle.shared_lists.proofs.StillLemmas.{as_before, still_ready}
use Rattle.shared_containers.proofs.TakenLemmas.{some_then, popped_behind}
use Rattle.shared_containers.proofs.stack.Stack.pop_if.Goals as goal

pub try_pop-requires-clause-ready : goal.try_pop-requires-clause-ready
try_pop-requires-clause-ready g c = still_ready c.args.domain.now c.args.local.now c.loop-i.local c.requires.ready c.loop-i.invariant.same

pub returns-in-Empty-clause-same : goal.returns-in-Empty-clause-same
returns-in-Empty-clause-same g c = as_before c.args.local.now c.loop-i.local c.try_pop.new.local c.loop-i.invariant.same c.try_pop.ensures.same

pub returns-in-Item-clause-popped : goal.returns-in-Item-clause-popped
returns-in-Item-clause-popped g c = c.in-Item.ensures.home

pub returns-in-Item-clause-same : goal.returns-in-Item-clause-same
returns-in-Item-clause-same g c = as_before c.args.local.now c.loop-i.local c.try_pop.new.local c.loop-i.invariant.same c.try_pop.ensures.same

pub returns-in-Kept-clause-kept : goal.returns-in-Kept-clause-kept
returns-in-Kept-clause-kept g c = c.in-Kept.ensures.home

pub returns-in-Kept-clause-same : goal.returns-in-Kept-clause-same
returns-in-Kept-clause-same g c = as_before c.args.local.now c.loop-i.local c.try_pop.new.local c.loop-i.invariant.same c.try_pop.ensures.same

pub loop-i-preserved : goal.loop-i-preserved
loop-i-preserved g c = record {
  same = as_before c.args.local.now c.loop-i.local c.try_pop.new.local c.loop-i.invariant.same c.try_pop.ensures.same;
  some = some_then c.args.local.now c.loop-i.local c.try_pop.new.local c.loop-i.invariant.some c.try_pop.ensures.some;
}

pub returns-clause-same : goal.returns-clause-same
returns-clause-same g c = c.loop-i.invariant.same

pub returns-in-Empty-clause-some : goal.returns-in-Empty-clause-some
returns-in-Empty-clause-some g c = some_then c.args.local.now c.loop-i.local c.try_pop.new.local c.loop-i.invariant.some c.try_pop.ensures.some

pub returns-in-Item-clause-some : goal.returns-in-Item-clause-some
returns-in-Item-clause-some g c = some_then c.args.local.now c.loop-i.local c.try_pop.new.local c.loop-i.invariant.some c.try_pop.ensures.some

pub returns-in-Kept-clause-some : goal.returns-in-Kept-clause-some
returns-in-Kept-clause-some g c = some_then c.args.local.now c.loop-i.local c.try_pop.new.local c.loop-i.invariant.some c.try_pop.ensures.some

pub returns-in-Item-clause-taken : goal.returns-in-Item-clause-taken
returns-in-Item-clause-taken g c = popped_behind c.args.local.now c.loop-i.local c.try_pop.new.local c.loop-i.invariant.same.0.0 c.loop-i.invariant.some c.args.self.now c.args.links.now c.in-Item.owner c.in-Item.ensures.popped

pub returns-clause-some : goal.returns-clause-some
returns-clause-some g c = c.loop-i.invariant.some
