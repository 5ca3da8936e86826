use Rattle.std.proofs.Common.{◌≡◌, ◌++◌, drop}
use Rattle.version_views.specs.Writes.{after_writes, replies_to}
use Rattle.version_views.proofs.plain.applied.Given as goal

-- what is done, and what is yet to be
abbrev pub invariant-loop-write : goal.invariant-loop-write
invariant-loop-write g l =
    let cmp = g.K.Ord.cmp in
    record {
      list : after_writes cmp (drop l.write-index l.writes) l.list.items ≡ after_writes cmp l.writes l.pairs;
      replies : l.replies.items ++ replies_to cmp (drop l.write-index l.writes) l.list.items ≡ replies_to cmp l.writes l.pairs;
    }
