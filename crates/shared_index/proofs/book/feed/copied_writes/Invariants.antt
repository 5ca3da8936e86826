use Rattle.std.proofs.Common.{◌≡◌, take}
use Rattle.shared_index.proofs.book.feed.copied_writes.Given as goal

abbrev pub invariant-loop-write : goal.invariant-loop-write
invariant-loop-write g l = l.copy.items ≡ take l.write-index l.writes
