-- lists of entries that hang in a place, and what a change of the place leaves of them
use Rattle.std.specs.Prelude.{◌≡◌, ◌≢◌, ◌≤◌, ℕ, Bool, true, false, Option, None, Some, List, [], ◌∷◌, cond, length, ◌+◌}
use Rattle.sdd_world.specs.Frame.{Protects}
use Rattle.sdd_world.specs.Place.{IsOpen}
use Rattle.sdd_world.specs.State.{State, local_at, status_at, value_at, cell_at, vacancy, emptiness, is_used}
use Rattle.sdd_world.specs.declared.tag.Tag.{Tag}
use Rattle.sdd_world.specs.declared.tag.Tag.TheVariants as tag
use Rattle.sdd_world.specs.declared.status.Status.TheVariants as status
use Rattle.sdd_world.specs.declared.status.Cell.TheVariants as cell

-- an entry of a list: its slot, its item, the cell of its link, and the tag there
pub record Entry (L : Type 0) : Type 0 where
  pub slot : ℕ
  pub item : L
  pub link : ℕ
  pub tag : Tag

abbrev pub slots : {L : Type 0} → List (Entry L) → List ℕ
slots [] = []
slots (e ∷ es) = e.slot ∷ slots es

abbrev pub links : {L : Type 0} → List (Entry L) → List ℕ
links [] = []
links (e ∷ es) = e.link ∷ links es

-- a number isn't in a list; no number of one list is in another
abbrev pub IsOut : ℕ → List ℕ → Type 0
IsOut i [] = Unit {0}
IsOut i (j ∷ js) = (i ≢ j) × IsOut i js

abbrev pub AreOut : List ℕ → List ℕ → Type 0
AreOut [] js = Unit {0}
AreOut (i ∷ is) js = IsOut i js × AreOut is js

-- the tag of an entry that was deleted
abbrev pub deleted : Tag → Bool
deleted tag.None = false
deleted tag.First = false
deleted tag.Second = true
deleted tag.Both = true

-- the item of an entry is in its slot, has owners and names the entry's link
pub record IsItem {L : Type 0} (link : L → Option ℕ) (w : State L) (e : Entry L) : Type 0 where
  pub owners : ℕ
  pub shared : status_at w e.slot ≡ status.Shared owners
  pub owned : 1 ≤ owners
  pub here : value_at w e.slot ≡ Some e.item
  pub linked : link e.item ≡ Some e.link

-- entries hang from a cell: it has the given tag and keeps the first entry, whose link keeps the next, and so on to an
-- empty one; no cell and no item comes twice
abbrev pub IsList : {L : Type 0} → (L → Option ℕ) → State L → ℕ → Tag → List (Entry L) → Type 0
IsList link w c t [] = cell_at w c ≡ cell.OfShared None t
IsList link w c t (e ∷ es) = (cell_at w c ≡ cell.OfShared (Some e.slot) t) × IsItem link w e × IsOut c (links (e ∷ es)) × IsOut e.slot (slots es) × IsList link w e.link e.tag es

-- the undeleted entries
abbrev pub undeleted : {L : Type 0} → List (Entry L) → List (Entry L)
undeleted [] = []
undeleted (e ∷ es) = cond (deleted e.tag) (undeleted es) (e ∷ undeleted es)

-- all cells in use but cs and all items but is are left
pub record Leaves {L : Type 0} (cs is : List ℕ) (w w' : State L) : Type 0 where
  pub cells : (c : ℕ) → IsOut c cs → emptiness (cell_at w c) ≡ 0 → cell_at w' c ≡ cell_at w c
  pub uses : (i : ℕ) → IsOut i is → vacancy (status_at w i) ≡ 0 → status_at w' i ≡ status_at w i
  pub values : (i : ℕ) → IsOut i is → vacancy (status_at w i) ≡ 0 → value_at w' i ≡ value_at w i

-- some list hangs from the cell
pub record Hangs {L : Type 0} (link : L → Option ℕ) (w : State L) (c : ℕ) : Type 0 where
  pub tag : Tag
  pub entries : List (Entry L)
  pub is : IsList link w c tag entries

-- the owner names an item with a link
pub record HasLink {L : Type 0} (link : L → Option ℕ) (w : State L) (i : ℕ) : Type 0 where
  pub entry : Entry L
  pub at : i ≡ entry.slot
  pub is : IsItem link w entry

-- an entry that is in no list, and has no next one
pub record IsDetached {L : Type 0} (link : L → Option ℕ) (w : State L) (e : Entry L) : Type 0 where
  pub item : IsItem link w e
  pub empty : cell_at w e.link ≡ cell.OfShared None e.tag

-- an entry can hang before a list that hangs from cell c
pub record FitsBefore {L : Type 0} (c : ℕ) (es : List (Entry L)) (e : Entry L) : Type 0 where
  pub cell : IsOut c (links (e ∷ es))
  pub link : IsOut e.link (links es)
  pub slot : IsOut e.slot (slots es)

-- the first entry of a list was taken off: i is its slot, or none
abbrev pub TookFirst : {L : Type 0} → (L → Option ℕ) → State L → State L → ℕ → Tag → List (Entry L) → Option ℕ → Type 0
TookFirst link w w' c t [] i = (i ≡ None) × IsList link w' c t [] × Leaves [] [] w w'
TookFirst link w w' c t (e ∷ es) i = (i ≡ Some e.slot) × IsList link w' c t es × IsDetached link w' e × Leaves (c ∷ e.link ∷ []) [] w w'

-- the slot of the first entry, if there is one
abbrev pub first_slot : {L : Type 0} → List (Entry L) → Option ℕ
first_slot [] = None
first_slot (e ∷ es) = Some e.slot

-- what every call leaves: items that are there keep their values, guards stay, and protect what they protected
pub record Stays {L : Type 0} (w w' : State L) : Type 0 where
  pub states : length w'.states ≡ length w.states
  pub cells : length w'.cells ≡ length w.cells
  pub participants : length w'.participants ≡ length w.participants
  pub values : (i : ℕ) → is_used (status_at w i) ≡ true → value_at w' i ≡ value_at w i
  pub used : (i : ℕ) → is_used (status_at w i) ≡ true → is_used (status_at w' i) ≡ true
  pub nests : (q : ℕ) → (local_at w' q).nesting ≡ (local_at w q).nesting
  pub protects : (q i : ℕ) → IsOpen w q → Protects w q i → Protects w' q i

-- the item in slot i is an entry that can hang before what hangs from cell c
pub record CanHang {L : Type 0} (link : L → Option ℕ) (w : State L) (c i : ℕ) : Type 0 where
  pub tag : Tag
  pub entries : List (Entry L)
  pub entry : Entry L
  pub hung : IsList link w c tag entries
  pub loose : IsDetached link w entry
  pub fits : FitsBefore c entries entry
  pub at : i ≡ entry.slot

-- the list without the deleted entries at its front
abbrev pub skip : {L : Type 0} → List (Entry L) → List (Entry L)
skip [] = []
skip (e ∷ es) = cond (deleted e.tag) (skip es) (e ∷ es)

-- the tag of the cell behind the deleted entries at the front of a list, which hangs from a cell with tag t
abbrev pub front_tag : {L : Type 0} → Tag → List (Entry L) → Tag
front_tag t [] = t
front_tag t (e ∷ es) = cond (deleted e.tag) (front_tag e.tag es) t

-- a list begins with this item, whose link is this cell, and which is deleted or not
pub record BeginsWithItem {L : Type 0} (es : List (Entry L)) (item : L) (link : ℕ) (gone : Bool) : Type 0 where
  pub first : Entry L
  pub rest : List (Entry L)
  pub is : es ≡ first ∷ rest
  pub item_is : item ≡ first.item
  pub link_is : link ≡ first.link
  pub gone_is : gone ≡ deleted first.tag

-- deleted entries at the front of a list were passed, n of them, and the rest hangs from cell c
pub record Skipped {L : Type 0} (link : L → Option ℕ) (w : State L) (t : Tag) (es : List (Entry L)) (n c : ℕ) : Type 0 where
  pub tag : Tag
  pub rest : List (Entry L)
  pub hung : IsList link w c tag rest
  pub same : skip rest ≡ skip es
  pub tags : front_tag tag rest ≡ front_tag t es
  pub passed : n + length rest ≡ length es

-- n entries of a list were passed, m of them undeleted, and the rest hangs from cell c
pub record PassedEntries {L : Type 0} (link : L → Option ℕ) (w : State L) (es : List (Entry L)) (n m c : ℕ) : Type 0 where
  pub tag : Tag
  pub rest : List (Entry L)
  pub hung : IsList link w c tag rest
  pub same : m + length (undeleted rest) ≡ length (undeleted es)
  pub passed : n + length rest ≡ length es

-- these slots have the same use
abbrev pub SameUses : {L : Type 0} → State L → State L → List ℕ → Type 0
SameUses w w' [] = Unit {0}
SameUses w w' (i ∷ is) = (status_at w' i ≡ status_at w i) × SameUses w w' is

-- no item with owners has fewer of them
abbrev pub MoreOwners : {L : Type 0} → State L → State L → Type 0
MoreOwners w w' = (i n : ℕ) → status_at w i ≡ status.Shared n → (m : ℕ) × (status_at w' i ≡ status.Shared m) × (n ≤ m)

-- the item in slot i has one owner more, beside those that it had
pub record OneMore {L : Type 0} (w w' : State L) (i : ℕ) : Type 0 where
  pub owners : ℕ
  pub was : status_at w i ≡ status.Shared owners
  pub had : 1 ≤ owners
  pub now : status_at w' i ≡ status.Shared (owners + 1)

-- n entries at the front of a list were given back
pub record Cut {L : Type 0} (link : L → Option ℕ) (w w' : State L) (c : ℕ) (t : Tag) (es : List (Entry L)) (n : ℕ) : Type 0 where
  pub rest : List (Entry L)
  pub hung : IsList link w' c t rest
  pub passed : n + length rest ≡ length es
  pub leaves : Leaves (c ∷ links es) (slots es) w w'
  pub same : SameUses w w' (slots rest)
  pub inner_links : (j : ℕ) → IsOut j (links es) → IsOut j (links rest)
  pub inner_slots : (j : ℕ) → IsOut j (slots es) → IsOut j (slots rest)

-- and all of these were deleted
pub record CutDeleted {L : Type 0} (link : L → Option ℕ) (w w' : State L) (c : ℕ) (t : Tag) (es : List (Entry L)) (n : ℕ) : Type 0 where
  pub cut : Cut link w w' c t es n
  pub skipped : skip cut.rest ≡ skip es

-- the cell at the end of a list that hangs from cell c
abbrev pub end_cell : {L : Type 0} → ℕ → List (Entry L) → ℕ
end_cell c [] = c
end_cell c (e ∷ es) = end_cell e.link es

-- the item of the first entry, if there is one
abbrev pub first_item : {L : Type 0} → List (Entry L) → Option L
first_item [] = None
first_item (e ∷ es) = Some e.item
