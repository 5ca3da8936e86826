-- bags: a row of cells, of which the first keeps the overflow, and each other one an entry of the primary or none
use Rattle.std.specs.Prelude.{◌≡◌, ◌≢◌, ◌<◌, ◌≤◌, ◌⊎◌, ◌+◌, ◌++◌, ℕ, Bool, IsTrue, ◌↔◌, Option, None, List, [], ◌∷◌, length, get_or, map}
use Rattle.sdd_world.specs.State.{State, status_at, cell_at, with_cell, IsFreeCell}
use Rattle.sdd_world.specs.Tokens.{shared_cell, shared_slot}
use Rattle.sdd_world.specs.declared.owner.Shared.{Shared}
use Rattle.sdd_world.specs.declared.cell.AtomicShared.{AtomicShared}
use Rattle.sdd_world.specs.declared.tag.Tag.{Tag}
use Rattle.sdd_world.specs.declared.tag.Tag.TheVariants as tag
use Rattle.sdd_world.specs.declared.status.Status.TheVariants as status
use Rattle.sdd_world.specs.declared.status.Cell.TheVariants as cell
use Rattle.sdd_lists.specs.Chain.{Entry, IsList, IsDetached, IsOut, links, slots}
use Rattle.world_containers.specs.Stacks.{IsNew, IsStack}
use Rattle.sdd_lists.specs.Entries.{entry_link}
use Rattle.sdd_lists.specs.declared.linked_entry.LinkedEntry.{LinkedEntry}
use Rattle.world_containers.specs.declared.bag.Bag.{Bag}
use Rattle.world_containers.specs.declared.bag.IntoIter.{IntoIter}

-- how many values the primary of a bag may keep
pub record IsLength (n : ℕ) : Type 0 where
  pub least : 1 ≤ n
  pub most : n ≤ 32

-- the number of the cell at a place of a row
abbrev pub cell_of : {L : Type 0} → List (AtomicShared L) → ℕ → ℕ
cell_of cs k = get_or (map shared_cell cs) k 0

-- whether a cell keeps nothing
abbrev pub IsNull : {L : Type 0} → State L → ℕ → Bool → Type 0
IsNull w c b = (item : Option ℕ) (t : Tag) → cell_at w c ≡ cell.OfShared item t → IsTrue b ↔ (item ≡ None)

-- no number is in both lists
abbrev pub AreApart : List ℕ → List ℕ → Type 0
AreApart xs ys = (j : ℕ) → IsOut j xs ⊎ IsOut j ys

-- entries hang from the cells of a row, from each those of the list at its place; no cell and no item comes twice
pub record IsRow {L : Type 0} (link : L → Option ℕ) (w : State L) (cs : List ℕ) (rows : List (List (Entry L))) : Type 0 where
  pub hung : (k : ℕ) → k < length cs → IsList link w (get_or cs k 0) tag.None (get_or rows k [])
  pub cells : (k m : ℕ) → k < length cs → m < length cs → k ≢ m → AreApart (get_or cs k 0 ∷ links (get_or rows k [])) (get_or cs m 0 ∷ links (get_or rows m []))
  pub items : (k m : ℕ) → k < length cs → m < length cs → k ≢ m → AreApart (slots (get_or rows k [])) (slots (get_or rows m []))

-- some lists hang from the cells of a row, one from each
pub record IsSomeRow {L : Type 0} (link : L → Option ℕ) (w : State L) (cs : List ℕ) : Type 0 where
  pub rows : List (List (Entry L))
  pub size : length rows ≡ length cs
  pub is : IsRow link w cs rows

-- all lists of a row, one after another
abbrev pub joined : {X : Type 0} → List (List X) → List X
joined [] = []
joined (xs ∷ rows) = xs ++ joined rows

-- each list has at most one entry
abbrev pub AreSingle : {X : Type 0} → List (List X) → Type 0
AreSingle [] = Unit {0}
AreSingle (xs ∷ rows) = (length xs ≤ 1) × AreSingle rows

-- clear entries with one owner, which is the list that has them
abbrev pub AreOwn : {L : Type 0} → State L → List (Entry L) → Type 0
AreOwn w [] = Unit {0}
AreOwn w (e ∷ es) = (e.tag ≡ tag.None) × (status_at w e.slot ≡ status.Shared 1) × AreOwn w es

-- clear entries with one owner that are in no list, none of them twice: each owner can be given back by itself
abbrev pub AreSpare : {T : Type 0} → State (LinkedEntry T) → List (Entry (LinkedEntry T)) → Type 0
AreSpare w [] = Unit {0}
AreSpare w (e ∷ es) = IsDetached entry_link w e × IsOut e.slot (slots es) × AreSpare w es

-- the cells of a bag
abbrev pub bag_cells : {T : Type 0} {n : ℕ} → Bag T n → List ℕ
bag_cells b = map shared_cell b.cells.items

-- the cells of a bag that is taken apart
abbrev pub into_cells : {T : Type 0} {n : ℕ} → IntoIter T n → List ℕ
into_cells i = bag_cells i.bag

-- a bag of these entries, those of the primary and those of the overflow, each in some order
pub record IsBag {T : Type 0} (n : ℕ) (w : State (LinkedEntry T)) (cs : List ℕ) (primary overflow : List (Entry (LinkedEntry T))) : Type 0 where
  pub rows : List (List (Entry (LinkedEntry T)))
  pub row : IsRow entry_link w cs (overflow ∷ rows)
  pub cells : length cs ≡ n + 1
  pub size : length rows ≡ n
  pub single : AreSingle rows
  pub is : joined rows ≡ primary
  pub own : AreOwn w (overflow ++ primary)

-- some bag hangs from the cells
pub record IsSomeBag {T : Type 0} (n : ℕ) (w : State (LinkedEntry T)) (cs : List ℕ) : Type 0 where
  pub primary : List (Entry (LinkedEntry T))
  pub overflow : List (Entry (LinkedEntry T))
  pub is : IsBag n w cs primary overflow

-- ys is xs with x somewhere in it
pub record Adds {X : Type 0} (x : X) (xs ys : List X) : Type 0 where
  pub before : List X
  pub after : List X
  pub was : xs ≡ before ++ after
  pub now : ys ≡ before ++ x ∷ after

-- a new entry of the value hangs before those of a cell, and nobody else owns it
pub record Puts {T : Type 0} (w w' : State (LinkedEntry T)) (value : T) (c : ℕ) : Type 0 where
  pub entry : Entry (LinkedEntry T)
  pub new : IsNew w value entry
  pub owners : status_at w' entry.slot ≡ status.Shared 1
  pub puts : (es : List (Entry (LinkedEntry T))) → IsStack w c es → IsStack w' c (entry ∷ es)

-- a new entry of the value is in the primary of a bag, which has others already
pub record PutsPrimary {T : Type 0} (n : ℕ) (w w' : State (LinkedEntry T)) (value : T) (cs : List ℕ) (primary overflow : List (Entry (LinkedEntry T))) : Type 0 where
  pub entry : Entry (LinkedEntry T)
  pub new : IsNew w value entry
  pub more : List (Entry (LinkedEntry T))
  pub adds : Adds entry primary more
  pub left : IsBag n w' cs more overflow

-- a new entry of the value is in the overflow
pub record PutsOverflow {T : Type 0} (n : ℕ) (w w' : State (LinkedEntry T)) (value : T) (cs : List ℕ) (primary overflow : List (Entry (LinkedEntry T))) : Type 0 where
  pub entry : Entry (LinkedEntry T)
  pub new : IsNew w value entry
  pub more : List (Entry (LinkedEntry T))
  pub adds : Adds entry overflow more
  pub left : IsBag n w' cs primary more

-- the entry in slot i was taken from a bag, from the overflow while that has any; it is in no list, and has one owner
pub record TakesOne {T : Type 0} (n : ℕ) (w' : State (LinkedEntry T)) (cs : List ℕ) (i : ℕ) (primary overflow : List (Entry (LinkedEntry T))) : Type 0 where
  pub entry : Entry (LinkedEntry T)
  pub at : i ≡ entry.slot
  pub loose : IsDetached entry_link w' entry
  pub clear : entry.tag ≡ tag.None
  pub owners : status_at w' entry.slot ≡ status.Shared 1
  pub rest : List (Entry (LinkedEntry T))
  pub left : (Adds entry rest overflow × IsBag n w' cs primary rest × IsOut entry.slot (slots (rest ++ primary)) × IsOut entry.link (cs ++ links (rest ++ primary))) ⊎ ((overflow ≡ []) × Adds entry rest primary × IsBag n w' cs rest [] × IsOut entry.slot (slots rest) × IsOut entry.link (cs ++ links rest))

-- cells that were free keep nothing now, and all else is as it was
abbrev pub IsClaimed : {L : Type 0} → State L → List ℕ → State L → Type 0
IsClaimed w [] w' = w' ≡ w
IsClaimed w (c ∷ cs) w' = IsFreeCell w c × IsClaimed (with_cell c (cell.OfShared None tag.None) w) cs w'

-- cells that keep nothing, none of them twice
abbrev pub AreEmpty : {L : Type 0} → State L → List ℕ → Type 0
AreEmpty w [] = Unit {0}
AreEmpty w (c ∷ cs) = (cell_at w c ≡ cell.OfShared None tag.None) × IsOut c cs × AreEmpty w cs

-- the cells of a row are free
abbrev pub freed : {L : Type 0} → List ℕ → State L → State L
freed [] w = w
freed (c ∷ cs) w = with_cell c cell.Free (freed cs w)

abbrev pub AreFreeCells : {L : Type 0} → State L → List ℕ → Type 0
AreFreeCells w [] = Unit {0}
AreFreeCells w (c ∷ cs) = IsFreeCell w c × AreFreeCells w cs

-- the entries xs, taken from ys one after another, leave zs
abbrev pub Removes : {X : Type 0} → List X → List X → List X → Type 0
Removes [] ys zs = zs ≡ ys
Removes {X} (x ∷ xs) ys zs = (rest : List X) × Adds x rest ys × Removes xs rest zs

-- the same entries, in some order
abbrev pub IsSameBag : {X : Type 0} → List X → List X → Type 0
IsSameBag xs ys = Removes xs ys []

-- a call of a closure with the owner of an entry
abbrev pub CallsWith : {T B F : Type 0} → (F → B → Shared (LinkedEntry T) → B → F → Type 0) → B × F → Entry (LinkedEntry T) → B × F → Type 0
CallsWith {T} step s e t = (o : Shared (LinkedEntry T)) × (shared_slot o ≡ e.slot) × step s.1 s.0 o t.0 t.1
