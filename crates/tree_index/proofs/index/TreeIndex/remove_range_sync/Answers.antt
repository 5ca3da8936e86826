use Rattle.std.proofs.Common.{sym}
use Rattle.tree_index.proofs.index.TreeIndex.remove_range_sync.Goals as goal

pub returns-clause-removed : goal.returns-clause-removed
returns-clause-removed g c = rw (sym c.self.view_is) c.remove_range.ensures.pairs
