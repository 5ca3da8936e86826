-- owners in hand, as they are told
use Rattle.std.proofs.Common.{◌≡◌, ℕ, List, [], ◌∷◌, ◌++◌, map, refl, ap, ◌∙◌}
use Rattle.std.specs.Prelude.{reverse}
use Rattle.std.proofs.lemmas.List.{map-append, reverse-append}
use Rattle.sdd_homes.specs.declared.Owner.{Owner}
use Rattle.domain_table.specs.Owners.{told}
use Rattle.sdd_domain.specs.Holding.{all_told, told_of}
use Rattle.sdd_domain.specs.declared.held.Held.{Held}

-- the first that is told is the first one's
pub first_held : (os : List Owner) (t : ℕ × ℕ) (ts : List (ℕ × ℕ)) → map told os ≡ t ∷ ts → (o : Owner) × (rest : List Owner) × (os ≡ o ∷ rest) × (told o ≡ t) × (map told rest ≡ ts)
first_held [] t ts e = absurd (cc)
first_held (o ∷ rest) t ts e = (o, rest, refl, cc, cc)

-- no owners are told of no owners
pub none_held : (os : List Owner) → map told os ≡ [] → os ≡ []
none_held [] none = refl
none_held (o ∷ os) none = absurd (cc)

-- the last one that an item holds is told first
pub last_told : {T : Type 0} (hs : List (Held T)) (h : Held T) → all_told (hs ++ h ∷ []) ≡ told_of h ∷ all_told hs
last_told hs h = ap reverse (map-append told_of hs (h ∷ [])) ∙ reverse-append (map told_of hs) (told_of h ∷ [])
