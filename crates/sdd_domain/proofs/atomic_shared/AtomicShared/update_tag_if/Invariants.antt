use Rattle.std.proofs.Common.{◌≡◌}
use Rattle.sdd_domain.specs.CellSteps.{HasReadOften}
use Rattle.sdd_domain.specs.Tokens.{own_of, born_of, waiting_of, IsInNest}
use Rattle.sdd_domain.proofs.atomic_shared.AtomicShared.update_tag_if.Given as goal

abbrev pub invariant-loop-i : goal.invariant-loop-i
invariant-loop-i g l = record {
  same : IsInNest l.initial.local l.local × (own_of l.local ≡ own_of l.initial.local) × (born_of l.local ≡ born_of l.initial.local) × (waiting_of l.local ≡ waiting_of l.initial.local);
  looked : HasReadOften l.initial.local l.self.cell l._i l.local;
}
