use Rattle.std.proofs.Common.{◌≡◌, take, map}
use Rattle.sdd_steps.specs.Steps.{older}
use Rattle.sdd_steps.proofs.effect.aged_items.Given as goal

abbrev pub invariant-loop-item : goal.invariant-loop-item
invariant-loop-item l = l.all.items ≡ map (older l.p) (take l.item-index l.items)
