-- A `&` to what is seen shows as much. Assumes `Logic`.
use Rattle.std.proofs.Common.{[], ◌∷◌}
use seplogic.Ra.Ura.{Ura}
use base.Logic.{ent, sep}
use types.Logic.{Logic, sem}
use denote.RattleType.{RattleType}
use denote.SharingLaws.{contraction}
use denote.Param.Laws.{Laws}
use denote.Param.Shared.{copy_shared}
use denote.Struct.Field.{RawPtr-field}
use denote.Struct.Laws.{RawPtr-copy}
use denote.Struct.Lending.{of_Lends, lent_at, lent_at_shr_laws}
use Rattle.parted.specs.contracts.raw.Seen as C
use Rattle.parted.specs.Owned.{seen_owned}
use Rattle.parted.proofs.raw.Seen.TheLaw.Statement.{statement}
use Rattle.parted.proofs.Behind.{said_laws, said_lends}

module _ (T : RattleType) (L : Laws T) where
  twice : (s : (C.the_row T).Denot) (M : Type 1) (𝓤 : Ura M) (𝓛 : Logic 𝓤) → let P = sem 𝓛 (seen_owned T s.ptr s.value s.life) in ent 𝓤 P (sep 𝓤 P P)
  twice s M 𝓤 𝓛 = contraction 𝓛 (lent_at T s.ptr s.value) (lent_at_shr_laws T L.shr_laws s.ptr s.value) (s.life ∷ [])

  pub shares : statement T L
  shares = of_Lends (C.struct T) (C.the_codes T.Denot T.coded) (C.the_heap T) (C.the_lent T)
      (λ s p. said_laws (seen_owned T s.ptr s.value s.life) (twice s)) (copy_shared RawPtr-field RawPtr-copy, tt)
      (λ M 𝓤 𝓛 s p. let G = seen_owned T s.ptr s.value s.life in said_lends G G (twice s) 𝓛 (C.the_row T).lives)
