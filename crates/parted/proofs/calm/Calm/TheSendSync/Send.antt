use denote.Param.Send.{IsSend, owning_send, struct_send}
use denote.RattleType.{RattleType}
use denote.Struct.Owning.{shape, fields, to}
use denote.Struct.Struct.{exits_of}
use Rattle.std_alloc.proofs.SendSync.{quiet}
use Rattle.atomic_table.proofs.badge.Badge.TheSendSync.{the_send}
use Rattle.parted.specs.contracts.calm.Calm.{the_row, the_type}

pub send : (V : RattleType) → IsSend (the_row V)
send V = owning_send (the_type V) (the_send V, tt) (λ d. tt) (λ k. quiet (to (the_type V)) (exits_of k (fields (the_type V))) ((struct_send (shape (the_type V)) (the_send V, tt)).leaving k))
