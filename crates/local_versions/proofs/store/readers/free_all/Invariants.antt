use Rattle.std.proofs.Common.{◌≡◌, ◌≤◌, None, replicate, vec_capacity}
use Rattle.sdd_world.specs.View.{Lists}
use Rattle.local_versions.specs.Store.{gap}
use Rattle.local_versions.proofs.store.readers.free_all.Given as goal

-- so many places, and room for the others
abbrev pub invariant-loop-place : goal.invariant-loop-place
invariant-loop-place g l = record {
  made : l.readers.items ≡ replicate l.place None;
  room : l.count ≤ vec_capacity l.readers;
  listed : Lists gap l.readers.items l.free.items;
  names : l.count ≤ vec_capacity l.free;
}
