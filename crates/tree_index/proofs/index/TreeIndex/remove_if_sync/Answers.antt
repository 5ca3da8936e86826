use Rattle.std.proofs.Common.{sym}
use Rattle.tree_nodes.specs.Content.{pairs_of}
use Rattle.tree_nodes.proofs.LeafLemmas.{value_asked, entry_asked, value_none}
use Rattle.tree_index.proofs.index.TreeIndex.remove_if_sync.Goals as goal

pub remove_if-requires-clause-callable : goal.remove_if-requires-clause-callable
remove_if-requires-clause-callable g c = entry_asked g.K.Ord.cmp c.args.key.now (pairs_of c.self.inside.arenas) _ (rw (sym c.self.view_is) at c.requires)

pub returns-clause-absent : goal.returns-clause-absent
returns-clause-absent g c = rw (sym c.self.view_is) (λ e. c.remove_if.ensures.absent (value_none g.K.Ord.cmp c.args.key.now (pairs_of c.self.inside.arenas) e))

pub returns-clause-asked : goal.returns-clause-asked
returns-clause-asked g c = rw (sym c.self.view_is) (value_asked g.K.Ord.cmp c.args.key.now (pairs_of c.self.inside.arenas) _ c.remove_if.ensures.asked)
