use Rattle.std.proofs.Common.{rules}
use Rattle.domain_table.proofs.Seats.{sits}
use Rattle.domain_table.proofs.steps.sit.Goals as goal

pub load_new_seat-seat-requires : goal.load_new_seat-seat-requires
load_new_seat-seat-requires g c = (search rules, sits _ _ _ _ _)
