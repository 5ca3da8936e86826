-- A `&` to a pledge says that the life runs on for as long as the tokens are away. Assumes `Logic`.
use Rattle.std.proofs.Common.{[], ◌∷◌}
use seplogic.Ra.Ura.{Ura}
use base.Logic.{ent, sep}
use base.Fml.{flft}
use types.Logic.{Logic, sem}
use types.Kit.{‵, ◌$◌, ◌∵◌, !, qed, move, fsplit, fjoin, done}
use types.Tokens.{shr_bor_dup}
use denote.Struct.Lending.{of_Lends}
use Rattle.parted.specs.contracts.life.Pledge as C
use Rattle.parted.specs.Owned.{life_shared, pledge_owned}
use Rattle.parted.proofs.life.Pledge.TheLaw.Statement.{statement}
use Rattle.parted.proofs.Behind.{said_laws, said_lends}

shown : (p : C.the_row.Denot) (M : Type 1) (𝓤 : Ura M) (𝓛 : Logic 𝓤) → let P = sem 𝓛 (pledge_owned p.id p.count p.until) in ent 𝓤 P (sep 𝓤 P (sem 𝓛 (life_shared p.id (p.until ∷ []))))
shown p M 𝓤 𝓛 = qed 𝓛 (‵ (pledge_owned p.id p.count p.until) ∷ []) ∵ fsplit ! $ move ! (1 ∷ []) $ shr_bor_dup ! $ move ! (2 ∷ 0 ∷ []) $ fjoin ! $ done !

pub shares : statement
shares = of_Lends C.struct C.the_codes C.the_heap C.the_lent
    (λ p at. said_laws (life_shared p.id (p.until ∷ [])) (λ M 𝓤 𝓛. 𝓛.shr_bors.shr_bor_dup (p.until ∷ []) (λ q. flft (p.id ∷ []) q))) tt
    (λ M 𝓤 𝓛 p at. said_lends (pledge_owned p.id p.count p.until) (life_shared p.id (p.until ∷ [])) (shown p) 𝓛 C.the_row.lives)
