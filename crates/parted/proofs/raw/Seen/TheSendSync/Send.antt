use mathlib.Core.List.{[], ◌∷◌}
use denote.RattleType.{RattleType}
use denote.Param.Send.{IsSend, IsSync, owning_send, struct_send, sendable}
use denote.Builtin.{RawPtr}
use denote.Struct.Struct.{exits_of}
use denote.Struct.Owning.{shape, fields, to}
use Rattle.std_alloc.proofs.SendSync.{quiet, seen}
use Rattle.parted.specs.contracts.raw.Seen.{the_row, the_type}

pub send : (T : RattleType) → IsSync T → IsSend (the_row T)
send T y = let S = the_type T in let at : IsSend RawPtr = search sendable in
    owning_send S (at, tt) (λ s. seen T y s.ptr s.value (s.life ∷ [])) (λ k. quiet (to S) (exits_of k (fields S)) ((struct_send (shape S) (at, tt)).leaving k))
