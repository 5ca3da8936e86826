use Rattle.std.proofs.Common.{◌≡◌, drop}
use Rattle.sdd_steps.specs.Steps.{all_have_loose_owners}
use Rattle.sdd_steps.proofs.enabled.all_have_loose_owners.Given as goal

abbrev pub invariant-loop-k : goal.invariant-loop-k
invariant-loop-k l = all_have_loose_owners l.items l.all (drop l.k-index l.some) ≡ all_have_loose_owners l.items l.all l.some
