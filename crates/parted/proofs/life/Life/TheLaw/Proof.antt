-- A `&` to tokens of a life says that the life runs on. Assumes `Logic`.
use Rattle.std.proofs.Common.{[], ◌∷◌}
use base.Fml.{flft}
use denote.SharingLaws.{one_shr_laws}
use denote.Struct.Lending.{of_Lends}
use Rattle.parted.specs.contracts.life.Life as C
use Rattle.parted.specs.Owned.{tokens, life_shared}
use Rattle.parted.proofs.life.Life.TheLaw.Statement.{statement}
use Rattle.parted.proofs.Behind.{lends_by}
use Rattle.parted.proofs.Counted.{borrowed}

pub shares : statement
shares = of_Lends C.struct C.the_codes C.the_heap C.the_lent (λ l p. one_shr_laws (λ q. flft (l.id ∷ []) q)) tt
    (λ M 𝓤 𝓛 l p. lends_by (tokens l.id l.count) (life_shared l.id) 𝓛 C.the_row.lives (borrowed 𝓛 l.id l.count))
