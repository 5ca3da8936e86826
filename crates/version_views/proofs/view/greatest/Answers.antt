use Rattle.std.proofs.Common.{ap, ◌∙◌}
use Rattle.std.specs.Option.{option_map}
use Rattle.tree_index.specs.Cursor.{next_back_of}
use Rattle.version_views.proofs.ChangeScanLemmas.{back_of}
use Rattle.version_views.proofs.view.greatest.Goals as goal

pub returns-in-Some : goal.returns-in-Some
returns-in-Some g c =
    ap (option_map (λ (p : g.row.K.Denot × g.row.V.Denot). p.0)) (c.in-Some.ensures.steps.0 ∙ (ap (next_back_of g.K.Ord.cmp) c.iter.ensures.cursor ∙ back_of g.K.Ord.cmp c.args.tree.now.pairs))

pub returns-in-None : goal.returns-in-None
returns-in-None g c =
    ap (option_map (λ (p : g.row.K.Denot × g.row.V.Denot). p.0)) (c.in-None.ensures.steps.0 ∙ (ap (next_back_of g.K.Ord.cmp) c.iter.ensures.cursor ∙ back_of g.K.Ord.cmp c.args.tree.now.pairs))
