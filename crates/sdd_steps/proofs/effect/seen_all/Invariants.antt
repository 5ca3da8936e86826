use Rattle.std.proofs.Common.{◌≡◌, take, map}
use Rattle.sdd_steps.specs.Steps.{seen}
use Rattle.sdd_steps.proofs.effect.seen_all.Given as goal

abbrev pub invariant-loop-k : goal.invariant-loop-k
invariant-loop-k l = l.all.items ≡ map (seen l.items) (take l.k-index l.holds)
