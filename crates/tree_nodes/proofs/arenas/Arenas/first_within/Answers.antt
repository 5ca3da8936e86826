use Rattle.std.proofs.Common.{sym, ap, ◌∙◌}
use Rattle.std.specs.Range.Bound.{bound_map}
use Rattle.std.specs.Borrow.{Bor}
use Rattle.tree_nodes.specs.Content.{pairs_of}
use Rattle.tree_nodes.specs.Bounds.{before_start}
use Rattle.tree_nodes.proofs.InsertionPointLemmas.{start_none}
use Rattle.tree_nodes.proofs.WalkLemmas.{if_some}
use Rattle.tree_nodes.proofs.arenas.Arenas.first_within.Goals as goal

pub returns-in-Unbounded-clause-there : goal.returns-in-Unbounded-clause-there
returns-in-Unbounded-clause-there g c =
    let ps = pairs_of c.args.self.now in
    let start = ap (λ b. before_start g.K.Ord.cmp (bound_map (λ (k : Bor g.row.K.Denot). k.now) b) ps) c.in-Unbounded.is ∙ start_none g.K.Ord.cmp ps in
    if_some c.first_from.result (λ s e. e ∙ c.first_leaf.ensures.first ∙ sym start) c.first_from.ensures.there
