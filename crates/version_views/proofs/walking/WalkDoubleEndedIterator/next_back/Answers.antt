use Rattle.std.proofs.Common.{rules}
use Rattle.tree_index.proofs.ProgressLemmas.{back_progress}
use Rattle.version_views.proofs.walking.WalkDoubleEndedIterator.next_back.Goals as goal

pub returns-clause-steps : goal.returns-clause-steps
returns-clause-steps g c = search rules

pub returns-clause-goes : goal.returns-clause-goes
returns-clause-goes g c = back_progress g.K.Ord.cmp _ _ _ (returns-clause-steps g c)
