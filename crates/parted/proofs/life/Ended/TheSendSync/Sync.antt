use denote.Param.Send.{IsSync, struct_sync}
use denote.Struct.Owning.{shape, to}
use Rattle.parted.specs.contracts.life.Ended.{the_row, the_type}

pub sync : IsSync the_row
sync = record { shared = λ d b o κ. ((struct_sync (shape the_type) tt).shared (to the_type d) b o κ, tt) }
