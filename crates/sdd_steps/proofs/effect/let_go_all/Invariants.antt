use Rattle.std.proofs.Common.{◌≡◌, take, map}
use Rattle.sdd_steps.specs.Steps.{let_go}
use Rattle.sdd_steps.proofs.effect.let_go_all.Given as goal

abbrev pub invariant-loop-o : goal.invariant-loop-o
invariant-loop-o l = l.all.items ≡ map (let_go l.i) (take l.o-index l.cells)
