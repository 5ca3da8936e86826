use denote.Param.Send.{IsSend, owning_send, struct_send}
use denote.Struct.Struct.{exits_of}
use denote.Struct.Owning.{shape, fields, to}
use Rattle.std_alloc.proofs.SendSync.{quiet}
use Rattle.parted.specs.contracts.life.Life.{the_row, the_type}

pub send : IsSend the_row
send = owning_send the_type tt (λ d. ((λ e c. tt))) (λ k. quiet (to the_type) (exits_of k (fields the_type)) ((struct_send (shape the_type) tt).leaving k))
