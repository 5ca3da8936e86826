use Rattle.std.proofs.Common.{sym}
use Rattle.tree_nodes.proofs.SpotLemmas.{rising_of}
use Rattle.tree_index.proofs.index.TreeIndex.len.Goals as goal

pub returns-clause-rising : goal.returns-clause-rising
returns-clause-rising g c = rw (sym c.self.view_is) (rising_of g.K.Ord.cmp g.met.K.Ord.total c.self.inside.arenas c.self.invariant)
