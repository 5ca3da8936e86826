-- What the types of this crate own beside their bytes. A life is a lifetime of the logic, by its number.
use Rattle.std.specs.Prelude.{ℕ, [], ◌∷◌}
use mir.Syntax.{Ty}
use mir.Raw.{raw}
use base.Fraction.{full_share}
use base.FractionLaws.{Counts}
use base.Fml.{Lft, Share, Fml, ftrue, fsep, fex, flft, fdead, flent, fshr_bor}
use denote.RattleType.{RattleType}
use denote.Memory.{lone}
use denote.RawPtr.{Ptr, lies_at, in_block}
use denote.Struct.Lending.{lent_at}

-- k of the 2 ^ 63 tokens of life a
abbrev pub tokens : ℕ → ℕ → Fml
tokens a k = fex Share (λ q. fex (Counts 63 q k) (λ _. flft (a ∷ []) q))

-- who borrows tokens of life a for κ knows that a lasts until κ is over
abbrev pub life_shared : ℕ → Lft → Fml
life_shared a κ = fshr_bor κ (λ q. flft (a ∷ []) q)

abbrev pub over : ℕ → Fml
over a = fdead (a ∷ [])

-- k tokens of life a are returned once life d is over, and a lasts until then
abbrev pub pledge_owned : ℕ → ℕ → ℕ → Fml
pledge_owned a k d = fsep (flent (d ∷ []) (tokens a k)) (life_shared a (d ∷ []))

-- the value x at p is read while life a is running
abbrev pub seen_owned : (R : RattleType) → Ptr → R.Denot → ℕ → Fml
seen_owned R p x a = lent_at R p x (a ∷ [])

-- the value x at p is returned once life a is over, together with the right to free its memory
abbrev pub deed_owned : (Ty → Ptr → Fml) → (R : RattleType) → Ptr → R.Denot → ℕ → Fml
deed_owned frees R p x a = fsep (in_block p ftrue) (fsep (flent (a ∷ []) (lies_at R full_share p x)) (frees (raw (lone R.mir)) p))
