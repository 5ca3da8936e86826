use Rattle.std.proofs.Common.{◌∙◌, sym, ap}
use Rattle.std.specs.Option.{is_some}
use Rattle.tree_nodes.specs.Content.{pairs_of}
use Rattle.tree_nodes.proofs.LeafLemmas.{has_entry}
use Rattle.tree_nodes.proofs.arenas.Arenas.contains.Goals as goal

pub returns-in-Some : goal.returns-in-Some
returns-in-Some g c = sym (has_entry g.K.Ord.cmp c.args.key.now (pairs_of c.args.self.now) ∙ ap is_some c.in-Some.ensures)

pub returns-in-None : goal.returns-in-None
returns-in-None g c = sym (has_entry g.K.Ord.cmp c.args.key.now (pairs_of c.args.self.now) ∙ ap is_some c.in-None.ensures)
