use Rattle.std.proofs.Common.{◌≡◌, ◌++◌, cond, drop}
use Rattle.sdd_steps.specs.State.{without}
use Rattle.sdd_steps.proofs.effect.without.Given as goal

abbrev pub invariant-loop-k : goal.invariant-loop-k
invariant-loop-k l = l.all.items ++ cond l.gone (drop l.k-index l.holds) (without l.i (drop l.k-index l.holds)) ≡ without l.i l.holds
