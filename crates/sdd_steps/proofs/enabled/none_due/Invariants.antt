use Rattle.std.proofs.Common.{◌≡◌, drop}
use Rattle.sdd_steps.specs.Steps.{none_due}
use Rattle.sdd_steps.proofs.enabled.none_due.Given as goal

abbrev pub invariant-loop-item : goal.invariant-loop-item
invariant-loop-item l = none_due l.p (drop l.item-index l.items) ≡ none_due l.p l.items
