use Rattle.std.proofs.Common.{ap, ◌∙◌}
use Rattle.std.specs.Ordering.{is_lt}
use Rattle.tree_nodes.proofs.SpotLemmas.{key_order}
use Rattle.tree_index.proofs.cursor.comes_first.Goals as goal

pub returns : goal.returns
returns g c =
    c.is_lt.ensures ∙ ap is_lt c.cmp.ensures ∙ key_order g.K.Ord.cmp g.met.K.Ord.total c.args.arenas.now c.requires.sound c.args.spot c.args.other c.requires.spot c.requires.other _ _ c.requires.own c.pair.ensures
