use Rattle.std.proofs.Common.{◌≡◌}
use Rattle.sdd_world.specs.Passing.{passed_times}
use Rattle.version_views.specs.Items.{held_by}
use Rattle.local_versions.proofs.store.reclaiming.run_passes.Given as goal

-- so many guards were opened and closed
abbrev pub invariant-loop : goal.invariant-loop
invariant-loop g l = l.w ≡ passed_times held_by l.writer l.counter l.fn.w
