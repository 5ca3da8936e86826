use Rattle.std.proofs.Common.{ap, ◌∙◌}
use Rattle.tree_index.specs.Cursor.{moved_back, next_back_of}
use Rattle.tree_index.proofs.ProgressLemmas.{back_progress}
use Rattle.tree_index.proofs.range.RangeDoubleEndedIterator.next_back.Goals as goal

pub returns-clause-steps : goal.returns-clause-steps
returns-clause-steps g c =
    let cmp = g.K.Ord.cmp in
    let e = c.next_back.ensures in
    (e.answer ∙ ap (next_back_of cmp) c.self.view_is, e.moved ∙ ap (moved_back cmp) c.self.view_is)

pub returns-clause-goes : goal.returns-clause-goes
returns-clause-goes g c = back_progress g.K.Ord.cmp _ _ _ (returns-clause-steps g c)
