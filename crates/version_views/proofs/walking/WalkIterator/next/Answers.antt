use Rattle.std.proofs.Common.{rules}
use Rattle.tree_index.proofs.ProgressLemmas.{forth_progress}
use Rattle.version_views.proofs.walking.WalkIterator.next.Goals as goal

pub returns-clause-steps : goal.returns-clause-steps
returns-clause-steps g c = search rules

pub returns-clause-goes : goal.returns-clause-goes
returns-clause-goes g c = forth_progress g.K.Ord.cmp _ _ _ (returns-clause-steps g c)
