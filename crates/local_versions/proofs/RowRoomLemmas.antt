-- Room for the new rows that are yet to be placed, that of the next one last.
use Rattle.std.proofs.Common.{◌≡◌, List, [], ◌∷◌, ◌++◌, ℕ, refl, reverse, sym, subst}
use mathlib.Core.List.{reverse-cons}
use Rattle.std.specs.Global.{Vec}
use Rattle.std.specs.List.{All, AllZip}
use Rattle.std.proofs.lemmas.List.Elements.{All-cons, All-nil}
use Rattle.sdd_world.specs.declared.owner.Kept.{Kept}
use Rattle.local_versions.specs.Rooms.{FitsIn, IsUnused, RoomsFit}

module _ {X Y : Type 0} (P : X → Y → Type 0) where
  zip_push : (xs : List X) (ys : List Y) (x : X) (y : Y) → AllZip P xs ys → P x y → AllZip P (xs ++ x ∷ []) (ys ++ y ∷ [])
  zip_push [] [] x y h p = (p, tt)
  zip_push [] (b ∷ ys) x y h p = absurd h
  zip_push (a ∷ xs) [] x y h p = absurd h
  zip_push (a ∷ xs) (b ∷ ys) x y h p = (h.0, zip_push xs ys x y h.1 p)

  none_beside : (ys : List Y) (y : Y) → AllZip P [] (ys ++ y ∷ []) → ⊥
  none_beside [] y h = h
  none_beside (b ∷ ys) y h = h

  some_beside : (xs : List X) (x : X) → AllZip P (xs ++ x ∷ []) [] → ⊥
  some_beside [] x h = h
  some_beside (a ∷ xs) x h = h

  zip_last : (xs : List X) (ys : List Y) (x : X) (y : Y) → AllZip P (xs ++ x ∷ []) (ys ++ y ∷ []) → AllZip P xs ys × P x y
  zip_last [] [] x y h = (tt, h.0)
  zip_last [] (b ∷ ys) x y h = absurd (none_beside ys y h.1)
  zip_last (a ∷ xs) [] x y h = absurd (some_beside xs x h.1)
  zip_last (a ∷ xs) (b ∷ ys) x y h = let rest = zip_last xs ys x y h.1 in ((h.0, rest.0), rest.1)

-- room for one row more
pub room_first : (size : ℕ) (sizes : List ℕ) (old new : List (Vec Kept)) (room : Vec Kept) → new ≡ old ++ room ∷ [] → FitsIn room size → RoomsFit old sizes → RoomsFit new (size ∷ sizes)
room_first size sizes old new room is fits h = subst (λ ns. AllZip FitsIn new ns) (sym (reverse-cons size sizes)) (subst (λ rs. AllZip FitsIn rs (reverse sizes ++ size ∷ [])) (sym is) (zip_push FitsIn old (reverse sizes) room size h fits))

-- the last room is that of the first row
pub room_last : (size : ℕ) (sizes : List ℕ) (old new : List (Vec Kept)) (room : Vec Kept) → old ≡ new ++ room ∷ [] → RoomsFit old (size ∷ sizes) → RoomsFit new sizes × FitsIn room size
room_last size sizes old new room is h = zip_last FitsIn new (reverse sizes) room size (subst (λ ns. AllZip FitsIn (new ++ room ∷ []) ns) (reverse-cons size sizes) (subst (λ rs. AllZip FitsIn rs (reverse (size ∷ sizes))) is h))

-- where there is a row, there is room
pub some_room : (size : ℕ) (sizes : List ℕ) (rooms : List (Vec Kept)) → rooms ≡ [] → RoomsFit rooms (size ∷ sizes) → ⊥
some_room size sizes rooms is h = none_beside FitsIn (reverse sizes) size (subst (λ ns. AllZip FitsIn [] ns) (reverse-cons size sizes) (subst (λ rs. AllZip FitsIn rs (reverse (size ∷ sizes))) is h))

-- and where there is none, there is none
pub no_room : (rooms : List (Vec Kept)) → RoomsFit rooms [] → rooms ≡ []
no_room [] h = refl
no_room (room ∷ rooms) h = absurd h

unused_of : (rooms : List (Vec Kept)) (sizes : List ℕ) → AllZip FitsIn rooms sizes → All IsUnused rooms
unused_of [] sizes h = All-nil IsUnused
unused_of (room ∷ rooms) [] h = absurd h
unused_of (room ∷ rooms) (size ∷ sizes) h = All-cons IsUnused room rooms h.0.0 (unused_of rooms sizes h.1)

-- nothing is in it
pub are_unused : (rooms : List (Vec Kept)) (sizes : List ℕ) → RoomsFit rooms sizes → All IsUnused rooms
are_unused rooms sizes h = unused_of rooms (reverse sizes) h
