-- walks that lend each value of a bag for writing
use Rattle.std.specs.Prelude.{◌≡◌, ℕ, ◌==◌, cond, Option, OnSome, IfNone, List, [], ◌∷◌, map, drop, Some}
use Rattle.std.specs.Borrow.{Fml, GName, LendsSo, MutBor, RattleType}
use mir.Syntax.{named}
use Rattle.sdd_world.specs.State.{State, cell_at, with_value as with_item}
use Rattle.sdd_world.specs.Steps.{NoneOpen}
use Rattle.sdd_world.specs.Tokens.{link_cell, shared_cell}
use Rattle.sdd_world.specs.declared.cell.AtomicShared.{AtomicShared}
use Rattle.sdd_world.specs.declared.link.Link.{Link}
use Rattle.sdd_world.specs.declared.tag.Tag.{Tag}
use Rattle.sdd_world.specs.declared.tag.Tag.TheVariants as tag
use Rattle.sdd_world.specs.declared.status.Cell.TheVariants as cell
use Rattle.sdd_lists.specs.Chain.{Entry, IsItem, IsList, IsOut, slots}
use Rattle.world_containers.specs.Bags.{AreOwn, IsBag, IsSomeBag, joined}
use Rattle.sdd_lists.specs.Entries.{entry_link, entry_with_value}
use Rattle.world_containers.specs.contracts.bag.IterMut.{the_row}
use Rattle.world_containers.specs.declared.bag.IterMut.{IterMut}
use Rattle.world_containers.specs.declared.bag.Stop.{Stop}
use Rattle.sdd_lists.specs.declared.linked_entry.LinkedEntry.{LinkedEntry}

-- a cell, and those of a row from a place on
abbrev pub cells_from : {T : Type 0} → List (AtomicShared (LinkedEntry T)) → ℕ → Link (LinkedEntry T) → List ℕ
cells_from cs row at = link_cell at ∷ drop row (map shared_cell cs)

-- the cell that keeps an entry, and those from which hang the ones behind it
abbrev pub stop_here : {T : Type 0} → Stop T → ℕ
stop_here s = link_cell s.here

abbrev pub stop_cells : {T : Type 0} → List (AtomicShared (LinkedEntry T)) → Stop T → List ℕ
stop_cells cs s = cells_from cs s.row s.next

module _ {T W : Type 0} where
  -- the place that a walk borrows, and the name of the borrow
  abbrev pub walk_place : IterMut T W → W
  walk_place i = i.place.now

  abbrev pub walk_name : IterMut T W → GName
  walk_name i = i.place.ghost_name

  -- the cells of the bag that it walks along
  abbrev pub walk_bag : IterMut T W → List ℕ
  walk_bag i = map shared_cell i.cells.now.items

  -- the cells from which hangs what is left
  abbrev pub walk_cells : IterMut T W → List ℕ
  walk_cells i = cells_from i.cells.now.items i.row i.at

-- entries hang from cells, from each those of the list at its place
abbrev pub AreHung : {T : Type 0} → State (LinkedEntry T) → List ℕ → List (List (Entry (LinkedEntry T))) → Type 0
AreHung w [] [] = Unit {0}
AreHung w [] (es ∷ rows) = ⊥
AreHung w (c ∷ cs) [] = ⊥
AreHung w (c ∷ cs) (es ∷ rows) = IsList entry_link w c tag.None es × AreHung w cs rows

-- no number comes twice
abbrev pub AreOnce : List ℕ → Type 0
AreOnce [] = Unit {0}
AreOnce (i ∷ is) = IsOut i is × AreOnce is

-- what is left of a walk hangs from these cells: clear entries with one owner, none of them twice, and no guard is open
pub record IsLeft {T : Type 0} (w : State (LinkedEntry T)) (cs : List ℕ) (es : List (Entry (LinkedEntry T))) : Type 0 where
  pub rows : List (List (Entry (LinkedEntry T)))
  pub hung : AreHung w cs rows
  pub is : joined rows ≡ es
  pub once : AreOnce (slots es)
  pub own : AreOwn w es
  pub quiet : NoneOpen w

-- something is left, or nothing
pub record IsSomeLeft {T : Type 0} (w : State (LinkedEntry T)) (cs : List ℕ) : Type 0 where
  pub entries : List (Entry (LinkedEntry T))
  pub is : IsLeft w cs entries

-- the same entries, that in slot i with another value
abbrev pub revalue : {T : Type 0} → ℕ → T → Entry (LinkedEntry T) → Entry (LinkedEntry T)
revalue i v e = cond (e.slot == i) (record e { item = entry_with_value v e.item }) e

abbrev pub revalued : {T : Type 0} → ℕ → T → List (Entry (LinkedEntry T)) → List (Entry (LinkedEntry T))
revalued i v es = map (revalue i v) es

-- the value of the entry in slot i was written: each list and each bag has the same entries, that one with the value v
pub record Revalues {T : Type 0} (w w' : State (LinkedEntry T)) (i : ℕ) (v : T) : Type 0 where
  pub lists : (c : ℕ) (t : Tag) (es : List (Entry (LinkedEntry T))) → IsList entry_link w c t es → IsList entry_link w' c t (revalued i v es)
  pub bags : (n : ℕ) (cs : List ℕ) (ps os : List (Entry (LinkedEntry T))) → IsBag n w cs ps os → IsBag n w' cs (revalued i v ps) (revalued i v os)

-- the next entry is kept by cell c, and the others hang from cells cs
pub record Finds {T : Type 0} (w : State (LinkedEntry T)) (c : ℕ) (cs : List ℕ) (es : List (Entry (LinkedEntry T))) : Type 0 where
  pub first : Entry (LinkedEntry T)
  pub rest : List (Entry (LinkedEntry T))
  pub is : es ≡ first ∷ rest
  pub here : cell_at w c ≡ cell.OfShared (Some first.slot) tag.None
  pub item : IsItem entry_link w first
  pub left : IsLeft w cs rest

-- of the entries that were left, the first one has the value v now, and the others are left
pub record Gives {T : Type 0} (w w' : State (LinkedEntry T)) (cs : List ℕ) (v : T) (es : List (Entry (LinkedEntry T))) : Type 0 where
  pub first : Entry (LinkedEntry T)
  pub rest : List (Entry (LinkedEntry T))
  pub is : es ≡ first ∷ rest
  pub now : w' ≡ with_item first.slot (entry_with_value v first.item) w
  pub left : IsLeft w' cs rest
  pub revalues : Revalues w w' first.slot v

-- the walk s gave an entry, which has the value v now, and is the walk s' then, over the same place and bag
pub record Visits {T W : Type 0} (state : W → State (LinkedEntry T)) (s s' : IterMut T W) (v : T) : Type 0 where
  pub same : walk_name s' ≡ walk_name s
  pub bag : walk_bag s' ≡ walk_bag s
  -- it can go on, each bag is a bag, and the participants are as they were
  pub left : IsSomeLeft (state (walk_place s')) (walk_cells s')
  pub bags : (n : ℕ) (cs : List ℕ) → IsSomeBag n (state (walk_place s)) cs → IsSomeBag n (state (walk_place s')) cs
  pub participants : (state (walk_place s')).participants ≡ (state (walk_place s)).participants
  -- of what was left, the first entry was given
  pub gives : (es : List (Entry (LinkedEntry T))) → IsLeft (state (walk_place s)) (walk_cells s) es → Gives (state (walk_place s)) (state (walk_place s')) (walk_cells s') v es

-- the walk s is at its end, and stays there
pub record StaysAtEnd {T W : Type 0} (s s' : IterMut T W) : Type 0 where
  pub same : walk_name s' ≡ walk_name s
  pub bag : walk_bag s' ≡ walk_bag s
  pub place : walk_place s' ≡ walk_place s
  pub cells : walk_cells s' ≡ walk_cells s

-- a walk lends the value of its next entry
module _ (T W : RattleType) where
  abbrev pub walk_row : RattleType
  walk_row = the_row (record { mir = named 1; lft = [] }) T W

  abbrev pub LendsNext : (W.Denot → State (LinkedEntry T.Denot)) → MutBor walk_row.Denot → Option (MutBor T.Denot) → Fml
  LendsNext state s r = LendsSo walk_row T s r (λ s' v. OnSome r (Visits state s.now s' v)) (λ s'. IfNone r (StaysAtEnd s.now s'))
