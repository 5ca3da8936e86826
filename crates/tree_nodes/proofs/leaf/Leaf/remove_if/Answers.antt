use Rattle.std.proofs.Common.{◌∙◌, sym, ap}
use Rattle.leaf_array.specs.Cells.{Cells}
use Rattle.leaf_array.proofs.EntryLemmas.{remove_removed}
use Rattle.tree_nodes.proofs.leaf.Leaf.remove_if.Goals as goal

pub returns-clause-asked : goal.returns-clause-asked
returns-clause-asked g c = rw c.is_removal.ensures (c.remove_if.ensures.asked c.requires.thawed)

pub returns-clause-removed : goal.returns-clause-removed
returns-clause-removed g c r =
    ap (λ (x : Cells g.row.K.Denot g.row.V.Denot). x.pairs) (c.remove_if.ensures.removed (sym c.is_removal.ensures ∙ r))
    ∙ remove_removed g.K.Ord.cmp g.met.K.Ord.total c.args.key.now c.args.self.now.array.pairs c.len.ensures.ordered
