use Rattle.local_index.proofs.ConflictLemmas.{first_holds, last_holds}
use Rattle.local_index.proofs.laws.pairs_beyond_a_part_are_no_conflict.Goals as goal

pub returns-clause-first : goal.returns-clause-first
returns-clause-first g c = λ lower upper count front old new few. first_holds g.K.Ord.cmp lower upper count front old new few

pub returns-clause-last : goal.returns-clause-last
returns-clause-last g c = λ lower upper count old new back few. last_holds g.K.Ord.cmp lower upper count old new back few
