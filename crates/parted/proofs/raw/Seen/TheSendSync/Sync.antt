use mathlib.Core.List.{[], ◌∷◌}
use denote.RattleType.{RattleType}
use denote.Param.Send.{IsSync, struct_sync, sendable}
use denote.Builtin.{RawPtr}
use denote.Struct.Owning.{shape, to}
use Rattle.std_alloc.proofs.SendSync.{seen}
use Rattle.parted.specs.contracts.raw.Seen.{the_row, the_type}

pub sync : (T : RattleType) → IsSync T → IsSync (the_row T)
sync T y = let S = the_type T in let at : IsSync RawPtr = search sendable in
    record { shared = λ s b o κ. ((struct_sync (shape S) (at, tt)).shared (to S s) b o κ, seen T y s.ptr s.value (s.life ∷ [])) }
