use Rattle.std.proofs.Common.{◌∙◌}
use Rattle.shared_lists.proofs.StillLemmas.{still}
use Rattle.shared_containers.proofs.FillLemmas.{one_filled}
use Rattle.shared_containers.proofs.TakenLemmas.{some_then}
use Rattle.shared_containers.proofs.bag.Bag.keep_under.Goals as goal

pub returns-in-None-clause-put : goal.returns-in-None-clause-put
returns-in-None-clause-put g c = let before = c.loop-i.invariant in
    one_filled c.args.local.now c.loop-i.local c.fill.new.local c.args.self.now.primary c.loop-i.i c.in-Some.cell.now.cell c.loop-i.owner c.args.owner before.same.0.0.0 before.some before.slot c.in-Some.ensures.at c.in-None.ensures.put

pub loop-i-preserved : goal.loop-i-preserved
loop-i-preserved g c = let a = c.args.local.now in let b = c.loop-i.local in let d = c.fill.new.local in let before = c.loop-i.invariant in let back = c.in-Some-fill.ensures.back in record {
  mine = back.0;
  item = λ x is. back.1 x (before.item x is);
  slot = back.2 ∙ before.slot;
  same = still a b d before.same c.fill.ensures.same;
  some = some_then a b d before.some c.fill.ensures.some;
}
