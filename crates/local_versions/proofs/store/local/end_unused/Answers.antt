use Rattle.std.proofs.Common.{inl, inr, arith}
use Rattle.local_versions.proofs.SweepLemmas.{sweeps_leave_none}
use Rattle.local_versions.proofs.store.local.end_unused.Goals as goal

-- no guard is open, and nothing is left
pub unreachable-requires : goal.unreachable-requires
unreachable-requires g c =
    elim c.in-Err.ensures.back [
      | inl o ↦ let opens = o.0.1 in let none = c.requires.closed o.0.0 in absurd (omega (arith, opens, none))
      | inr n ↦ n.2 (sweeps_leave_none.none c.args.w c.in-Err.field-0 c.requires.rootless n.1)
    ]
