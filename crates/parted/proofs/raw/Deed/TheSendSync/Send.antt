use mir.Raw.{raw}
use base.Fml.{ftrue}
use base.Shift.{Keyless}
use denote.RawPtr.{Ptr, block_ptr, null_ptr, in_block}
use denote.Memory.{lone}
use denote.RattleType.{RattleType}
use denote.Param.Send.{IsSend, Frees, owning_send, struct_send, sendable}
use denote.Builtin.{RawPtr}
use denote.Struct.Struct.{exits_of}
use denote.Struct.Owning.{shape, fields, to}
use Rattle.std_alloc.proofs.SendSync.{quiet, lies}
use Rattle.core.specs.declared.alloc.Allocator.{Ghosts}
use Rattle.parted.specs.contracts.raw.Deed.{the_row, the_type}

lies_somewhere : (p : Ptr) → Keyless (in_block p ftrue)
lies_somewhere (block_ptr b o) = tt
lies_somewhere null_ptr = tt

pub send : (T A : RattleType) (g : Ghosts A.Denot) → IsSend T → IsSend A → Frees g g.dealloc_token → IsSend (the_row T A g)
send T A g value alloc frees = let D = the_type T A g in let at : IsSend RawPtr = search sendable in
    owning_send D (at, (alloc, tt)) (λ d. (lies_somewhere d.ptr, (lies T value d.ptr d.value, frees.frees d.alloc (raw (lone T.mir)) d.ptr)))
    (λ k. quiet (to D) (exits_of k (fields D)) ((struct_send (shape D) (at, (alloc, tt))).leaving k))
