use Rattle.std.proofs.Common.{◌≡◌, ◌-◌}
use Rattle.sdd_world.specs.Frame.{Frame}
use Rattle.sdd_world.specs.Groups.{free_names}
use Rattle.local_versions.specs.Placing.{OnlyNamesCome}
use Rattle.local_versions.proofs.placing.name_groups.Given as goal

-- names come, and are counted
abbrev pub invariant-loop-free : goal.invariant-loop-free
invariant-loop-free g l = record {
  come : OnlyNamesCome l.fn.w l.w;
  keeps : Frame l.fn.w l.w;
  counted : l.free ≡ free_names l.w.groups;
}

abbrev pub decreases-loop-free : goal.decreases-loop-free
decreases-loop-free g l = l.count - l.free
