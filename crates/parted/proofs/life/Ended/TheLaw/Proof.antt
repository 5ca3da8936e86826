-- A `&` to the end of a life says that it is over. Assumes `Logic`.
use Rattle.std.proofs.Common.{[], ◌∷◌}
use denote.Struct.Lending.{of_Lends}
use Rattle.parted.specs.contracts.life.Ended as C
use Rattle.parted.specs.Owned.{over}
use Rattle.parted.proofs.life.Ended.TheLaw.Statement.{statement}
use Rattle.parted.proofs.Behind.{said_laws, said_lends}

pub shares : statement
shares = of_Lends C.struct C.the_codes C.the_heap C.the_lent (λ e p. said_laws (over e.id) (λ M 𝓤 𝓛. 𝓛.lfts.dead_dup (e.id ∷ []))) tt
    (λ M 𝓤 𝓛 e p. said_lends (over e.id) (over e.id) (λ M 𝓤 𝓛. 𝓛.lfts.dead_dup (e.id ∷ [])) 𝓛 C.the_row.lives)
