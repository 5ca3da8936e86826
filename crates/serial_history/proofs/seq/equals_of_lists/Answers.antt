use Rattle.serial_history.proofs.ListLemmas.{pointwise-same}
use Rattle.serial_history.proofs.seq.equals_of_lists.Goals as goal

pub returns : goal.returns
returns g c = pointwise-same g.T.PartialEq.eq c.requires
