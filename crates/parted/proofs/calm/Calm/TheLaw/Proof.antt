-- A `&` to a badge at rest shows nothing that could end or be used up. Assumes `Logic`.
use base.Fml.{ftrue}
use denote.Param.Laws.{Laws}
use denote.RattleType.{RattleType}
use denote.SharingLaws.{nothing_shr_laws}
use denote.Struct.Lending.{of_Lends, Lends-nothing}
use Rattle.atomic_table.proofs.badge.Badge.TheLaws as badge
use Rattle.parted.specs.contracts.calm.Calm as C
use Rattle.parted.proofs.calm.Calm.TheLaw.Statement.{statement}

pub shares : (V : RattleType) (L : Laws V) → statement V L
shares V L = of_Lends (C.struct V) (C.the_codes V.Denot V.coded) (C.the_heap V) (C.the_lent V) (λ d p. nothing_shr_laws) (badge.the_field_shared V L, tt)
    (λ M 𝓤 𝓛 d p. Lends-nothing 𝓛 ftrue (C.the_row V).lives)
