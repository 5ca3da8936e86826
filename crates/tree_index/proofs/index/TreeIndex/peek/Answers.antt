use Rattle.std.proofs.Common.{◌∙◌, sym, ap}
use Rattle.std.specs.Option.{option_map}
use Rattle.tree_nodes.specs.Content.{pairs_of}
use Rattle.leaf_array.proofs.EntryLemmas.{value_lookup}
use Rattle.tree_index.proofs.index.TreeIndex.peek.Goals as goal

pub returns-in-Some : goal.returns-in-Some
returns-in-Some g c = rw (sym c.self.view_is) (sym (value_lookup g.K.Ord.cmp c.args.key.now (pairs_of c.self.inside.arenas) ∙ ap (option_map (λ (p : g.row.K.Denot × g.row.V.Denot). p.1)) c.in-Some.ensures))

pub returns-in-None : goal.returns-in-None
returns-in-None g c = rw (sym c.self.view_is) (sym (value_lookup g.K.Ord.cmp c.args.key.now (pairs_of c.self.inside.arenas) ∙ ap (option_map (λ (p : g.row.K.Denot × g.row.V.Denot). p.1)) c.in-None.ensures))
