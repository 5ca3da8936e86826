-- what calls say of a list or an entry, in a line each
use Rattle.std.specs.Prelude.{◌≡◌, ◌≢◌, ℕ, ◌⊎◌, Option, None, Some, IfSome, List, [], ◌∷◌, ◌<◌}
use Rattle.sdd_world.specs.State.{State, IsFreeCell, NoneFree, NoCellFree, status_at, with_cell, cell_at}
use Rattle.sdd_world.specs.Tokens.{shared_cell, shared_slots}
use Rattle.sdd_world.specs.declared.cell.AtomicShared.{AtomicShared}
use Rattle.sdd_world.specs.declared.owner.Shared.{Shared}
use Rattle.sdd_world.specs.declared.status.Cell.TheVariants as cell
use Rattle.sdd_world.specs.declared.status.Status.TheVariants as status
use Rattle.sdd_world.specs.declared.tag.Tag.{Tag}
use Rattle.sdd_world.specs.declared.tag.Tag.TheVariants as tag
use Rattle.sdd_lists.specs.Chain.{Entry, IsList, IsDetached, Leaves, first_slot, links, slots, undeleted, FitsBefore}
use Rattle.sdd_lists.specs.Entries.{entry_link, entry_value}
use Rattle.sdd_lists.specs.Nodes.{IsApart, NamesEntry}
use Rattle.sdd_lists.specs.declared.linked_entry.LinkedEntry.{LinkedEntry}

-- no entry can be made: no slot is free, or no cell is
abbrev pub NoRoom : {L : Type 0} → State L → Type 0
NoRoom w = NoneFree w ⊎ NoCellFree w

module _ {L : Type 0} where
  -- a cell was emptied, and keeps its tag
  abbrev pub Empties : State L → State L → AtomicShared L → Option (Shared L) → Type 0
  Empties w w' from taken = (o : Option ℕ) (t : Tag) → cell_at w (shared_cell from) ≡ cell.OfShared o t → (shared_slots taken ≡ o) × (w' ≡ with_cell (shared_cell from) (cell.OfShared None t) w)

  -- a cell that kept nothing keeps the owner that is given, or none, with the tag that it had
  abbrev pub FillsEmpty : State L → State L → AtomicShared L → Option (Shared L) → Type 0
  FillsEmpty w w' at given = (t : Tag) → cell_at w (shared_cell at) ≡ cell.OfShared None t → w' ≡ with_cell (shared_cell at) (cell.OfShared (shared_slots given) t) w

  -- the entry in slot i hangs before all others
  abbrev pub HangsFirst : (L → Option ℕ) → State L → State L → AtomicShared L → ℕ → Type 0
  HangsFirst link w w' from i = (t : Tag) (es : List (Entry L)) (e : Entry L) → IsList link w (shared_cell from) t es → IsDetached link w e → FitsBefore (shared_cell from) es e → i ≡ e.slot → IsList link w' (shared_cell from) t (e ∷ es) × Leaves (shared_cell from ∷ e.link ∷ []) [] w w'

  -- the first entry is taken out, and those behind it hang here
  abbrev pub DropsFirst : (L → Option ℕ) → State L → State L → AtomicShared L → Type 0
  DropsFirst link w w' from = (t : Tag) (e : Entry L) (es : List (Entry L)) → IsList link w (shared_cell from) t (e ∷ es) → IsList link w' (shared_cell from) t es × Leaves (shared_cell from ∷ e.link ∷ []) (e.slot ∷ []) w w'

  -- whatever list hangs from a cell, with the tag there
  abbrev pub OfList : (L → Option ℕ) → State L → AtomicShared L → (Tag → List (Entry L) → Type 0) → Type 0
  OfList link w from P = (t : Tag) (es : List (Entry L)) → IsList link w (shared_cell from) t es → P t es

  -- of what is in use, at most a list changes: its cell, its links and its entries
  abbrev pub OnlyList : (L → Option ℕ) → State L → State L → AtomicShared L → Type 0
  OnlyList link w w' from = OfList link w from (λ t es. Leaves (shared_cell from ∷ links es) (slots es) w w')

  -- whatever entry slot o names
  abbrev pub OfEntry : (L → Option ℕ) → State L → Option ℕ → (Entry L → Type 0) → Type 0
  OfEntry link w o P = (e : Entry L) → NamesEntry link w o e → P e

  -- of what is in use, at most the link of the entry that slot o names changes
  abbrev pub OnlyLink : (L → Option ℕ) → State L → State L → Option ℕ → Type 0
  OnlyLink link w w' o = OfEntry link w o (λ e. Leaves (e.link ∷ []) [] w w')

  -- whatever entry slot o names, and the list behind it
  abbrev pub OfNode : (L → Option ℕ) → State L → Option ℕ → (Entry L → List (Entry L) → Type 0) → Type 0
  OfNode link w o P = (e : Entry L) (es : List (Entry L)) → NamesEntry link w o e → IsList link w e.link e.tag es → P e es

  -- an entry x in no list, in slot i, that can come behind the one that slot o names
  abbrev pub OfInsertion : (L → Option ℕ) → State L → Option ℕ → ℕ → (Entry L → Entry L → Type 0) → Type 0
  OfInsertion link w o i P = (e : Entry L) (x : Entry L) (es : List (Entry L)) → NamesEntry link w o e → IsList link w e.link e.tag es → IsDetached link w x → i ≡ x.slot → IsApart e.link es x → P e x

  -- the first undeleted entry behind the one that slot o names has as many owners as there can be
  abbrev pub NextIsFull : (L → Option ℕ) → State L → Option ℕ → Type 0
  NextIsFull link w o = OfNode link w o (λ e es. IfSome (first_slot (undeleted es)) (λ i. (n : ℕ) → n < 4294967295 → status_at w i ≢ status.Shared n))

-- an entry of the value was made, of a cell that was free
abbrev pub MakesEntry : {T : Type 0} → State (LinkedEntry T) → State (LinkedEntry T) → LinkedEntry T → T → Type 0
MakesEntry w w' e value = (c : ℕ) × IsFreeCell w c × (entry_value e ≡ value) × (entry_link e ≡ Some c) × (w' ≡ with_cell c (cell.OfShared None tag.None) w)
