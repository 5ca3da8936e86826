use Rattle.std.proofs.Common.{sym}
use Rattle.tree_nodes.proofs.NodeLemmas.{leaf_not_none}
use Rattle.tree_nodes.proofs.arenas.Arenas.split_point.Goals as goal

pub unreachable-requires : goal.unreachable-requires
unreachable-requires g c =
    leaf_not_none g.K.Ord.cmp g.met.K.Ord.total c.args.key.now c.args.self.now c.requires.sound c.requires.planted c.args.at c.requires.on (sym (rw c.in-None.is at c.get.ensures))
