use Rattle.std.proofs.Common.{◌∙◌}
use Rattle.shared_containers.proofs.PutLemmas.{appended_clear, cleared_more}
use Rattle.shared_lists.proofs.StillLemmas.{as_before, still_ready}
use Rattle.shared_containers.proofs.queue.Queue.insert.Goals as goal

pub try_push-requires-clause-ready : goal.try_push-requires-clause-ready
try_push-requires-clause-ready g c = still_ready c.args.domain.now c.args.local.now c.loop-i.local c.requires.ready c.loop-i.invariant.same

pub returns-in-Done-clause-same : goal.returns-in-Done-clause-same
returns-in-Done-clause-same g c = as_before c.args.local.now c.loop-i.local c.try_push.new.local c.loop-i.invariant.same c.try_push.ensures.same

pub returns-in-Unwanted-clause-refused : goal.returns-in-Unwanted-clause-refused
returns-in-Unwanted-clause-refused g c = λ x is. let pushed = c.in-Unwanted.ensures.pushed in ((pushed.0.0, pushed.0.1 x (c.loop-i.invariant.item x is)), pushed.1)

pub returns-in-Unwanted-clause-same : goal.returns-in-Unwanted-clause-same
returns-in-Unwanted-clause-same g c = as_before c.args.local.now c.loop-i.local c.try_push.new.local c.loop-i.invariant.same c.try_push.ensures.same

pub loop-i-preserved : goal.loop-i-preserved
loop-i-preserved g c =
    let pushed = c.in-Slow.ensures.pushed in
    record {
      mine = pushed.0;
      item = λ x is. pushed.1 x (c.loop-i.invariant.item x is);
      slot = pushed.2 ∙ c.loop-i.invariant.slot;
      same = as_before c.args.local.now c.loop-i.local c.try_push.new.local c.loop-i.invariant.same c.try_push.ensures.same;
      cleared = cleared_more c.args.links.now c.args.local.now c.loop-i.local c.try_push.new.local c.args.owner c.loop-i.invariant.cleared c.try_push.ensures.some;
    }

pub returns-clause-refused : goal.returns-clause-refused
returns-clause-refused g c = λ x is. (c.loop-i.invariant.mine, c.loop-i.invariant.item x is)

pub returns-clause-same : goal.returns-clause-same
returns-clause-same g c = c.loop-i.invariant.same

pub returns-in-Done-clause-put : goal.returns-in-Done-clause-put
returns-in-Done-clause-put g c = let before = c.loop-i.invariant in
    appended_clear c.args.links.now c.args.local.now c.loop-i.local c.try_push.new.local c.args.self.now c.args.owner c.loop-i.owner before.same.0.0 before.slot before.cleared c.in-Done.ensures.put
