use Rattle.sdd_world.proofs.CellLemmas.{held_cells_stay}
use Rattle.sdd_world.proofs.laws.held_cells_stay.Goals as goal

pub returns : goal.returns
returns g c = held_cells_stay g.T.Holds.holds
