-- room for the owners of rows that are yet to be placed
use Rattle.std.specs.Prelude.{◌≡◌, ℕ, ◌≤◌, List, [], ◌∷◌, reverse, vec_capacity}
use Rattle.std.specs.Global.{Vec}
use Rattle.std.specs.List.{AllZip, flat_map}
use Rattle.sdd_world.specs.declared.owner.Kept.{Kept}
use Rattle.version_views.specs.declared.row.Row.{Row}
use Rattle.version_drafts.specs.Parts.{segments_in}
use Rattle.version_drafts.specs.declared.shelves.Shelf.{Shelf}
use Rattle.version_drafts.specs.declared.shelves.Shelf.TheVariants as shelves

module _ {K V : Type 0} where
  -- how many segments a row has, if it is a new one, and each new one of these rows
  abbrev pub new_size : Shelf K V → List ℕ
  new_size (shelves.Older row from upto) = []
  new_size (shelves.New ps) = segments_in ps.items ∷ []

  abbrev pub new_sizes : List (Row K (Shelf K V)) → List ℕ
  new_sizes rows = flat_map (λ r. new_size r.segments) rows

-- no owner is in it, and so many fit in
abbrev pub IsUnused : Vec Kept → Type 0
IsUnused room = room.items ≡ []

abbrev pub FitsIn : Vec Kept → ℕ → Type 0
FitsIn room n = IsUnused room × (n ≤ vec_capacity room)

-- room for each of these sizes, from the last one on
abbrev pub RoomsFit : List (Vec Kept) → List ℕ → Type 0
RoomsFit rooms sizes = AllZip FitsIn rooms (reverse sizes)
