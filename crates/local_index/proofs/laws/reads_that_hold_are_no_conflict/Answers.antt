use Rattle.local_index.proofs.ConflictLemmas.{held_is_no_conflict, written_back}
use Rattle.local_index.proofs.laws.reads_that_hold_are_no_conflict.Goals as goal

pub returns-clause-written_back : goal.returns-clause-written_back
returns-clause-written_back g c = written_back g.met.K.Ord.total

pub returns-clause-no_conflict : goal.returns-clause-no_conflict
returns-clause-no_conflict g c = held_is_no_conflict g.K.Ord.cmp
