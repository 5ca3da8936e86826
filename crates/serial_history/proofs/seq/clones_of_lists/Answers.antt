use Rattle.serial_history.proofs.ListLemmas.{zipped-same}
use Rattle.serial_history.proofs.seq.clones_of_lists.Goals as goal

pub returns : goal.returns
returns g c = zipped-same g.T.Clone.is_clone c.requires
