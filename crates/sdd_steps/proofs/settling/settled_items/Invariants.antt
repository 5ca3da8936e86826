use Rattle.std.proofs.Common.{◌≡◌, take, map}
use Rattle.sdd_steps.specs.Steps.{settled_by}
use Rattle.sdd_steps.proofs.settling.settled_items.Given as goal

abbrev pub invariant-loop-item : goal.invariant-loop-item
invariant-loop-item l = l.all.items ≡ map (settled_by l.p) (take l.item-index l.items)
