-- What a desk has when it begins, and leaves when it ends.
use Rattle.std.proofs.Common.{◌≡◌, ℕ, zero, suc, ◌≤◌, List, [], ◌∷◌, length, Option, Some, None, refl, ap, drop, arith, slice_get, replicate}
use Rattle.std.specs.List.{All, AllByRecursion}
use Rattle.std.proofs.lemmas.List.Elements.{All-from_recursion}
use Rattle.local_index.specs.Store.{Version}
use Rattle.local_index.specs.Desk.{Machine, KeepsAll, Serves, cleared}
use Rattle.local_index.specs.declared.desk.Ticket.{Ticket}

-- each session of the places has its ticket
abbrev Sits : {K V : Type 0} → List (Option (Ticket K V)) → List (Option (Version K V)) → Type 0
Sits {K} {V} tickets places = (place : ℕ) (version : Version K V) → slice_get places place ≡ Some (Some version) → (ticket : Ticket K V) × (slice_get tickets place ≡ Some (Some ticket))

none_left : {K V : Type 0} (tickets : List (Option (Ticket K V))) (places : List (Option (Version K V))) → length places ≤ length tickets → Sits tickets places → AllByRecursion (λ p. p ≡ None) (cleared tickets places)
none_left [] [] room keeps = tt
none_left [] (place ∷ places) room keeps = absurd (omega (arith, room))
none_left (ticket ∷ tickets) [] room keeps = tt
none_left (None ∷ tickets) (None ∷ places) room keeps = (refl, none_left tickets places (omega (arith, room)) (λ place version h. keeps (suc place) version h))
none_left (None ∷ tickets) (Some version ∷ places) room keeps = let s = keeps zero version refl in absurd (let e = s.1 in cc)
none_left (Some ticket ∷ tickets) (place ∷ places) room keeps = (refl, none_left tickets places (omega (arith, room)) (λ place version h. keeps (suc place) version h))

-- no session is left where the desk had them all
pub cleared_idle : {K V : Type 0} (m : Machine K V) → Serves m → KeepsAll m → All (λ p. p ≡ None) (cleared m.desk m.index.places)
cleared_idle m serves keeps = All-from_recursion _ (cleared m.desk m.index.places) (none_left m.desk m.index.places serves.room keeps)

no_shorter : {X Y : Type 0} (n : ℕ) (x : X) (y : Y) → length (replicate n x) ≤ length (replicate n y)
no_shorter zero x y = omega arith
no_shorter (suc n) x y = let less = no_shorter n x y in omega (arith, less)

none_taken : {X : Type 0} (n place : ℕ) (x : X) (places : List (Option X)) → places ≡ replicate n None → slice_get places place ≡ Some (Some x) → ⊥
none_taken n place x [] e h = let none : None ≡ Some (Some x) = h in cc
none_taken zero place x (p ∷ ps) e h = cc
none_taken (suc n) zero x (p ∷ ps) e h = cc
none_taken (suc n) (suc place) x (p ∷ ps) e h = none_taken n place x ps (ap (drop 1) e) h

-- a desk without sessions serves an index without any
pub fresh_serves : {K V : Type 0} (m : Machine K V) (n : ℕ) → m.desk ≡ replicate n None → m.index.places ≡ replicate n None → Serves m × KeepsAll m
fresh_serves m n desk places = (
  record {
    room = rw (desk, places) (no_shorter n None None);
    placed = λ place ticket h. absurd (none_taken n place ticket m.desk desk h);
    opened = λ place ticket h. absurd (none_taken n place ticket m.desk desk h);
  },
  λ place version h. absurd (none_taken n place version m.index.places places h),
)
