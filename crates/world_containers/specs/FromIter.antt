-- containers that are filled as they are made: with the values of an iterator, or with clones
use Rattle.std.specs.Prelude.{◌≡◌, ◌<◌, ℕ, false, Option, None, Some, List, [], ◌∷◌, ◌++◌, length, cond}
use Rattle.sdd_world.specs.State.{State, cell_at, IsFreeCell}
use Rattle.sdd_world.specs.declared.tag.Tag.{Tag}
use Rattle.sdd_world.specs.declared.tag.Tag.TheVariants as tag
use Rattle.sdd_world.specs.declared.status.Cell.TheVariants as cell
use Rattle.sdd_lists.specs.Chain.{Entry, IsList, deleted, end_cell}
use Rattle.sdd_lists.specs.Entries.{entry_value, entry_link}
use Rattle.world_containers.specs.Stacks.{IsNew, IsStack}
use Rattle.world_containers.specs.Queues.{IsQueue}
use Rattle.world_containers.specs.Bags.{IsBag, IsSameBag, AreFreeCells}
use Rattle.sdd_lists.specs.declared.linked_entry.LinkedEntry.{LinkedEntry}
use Rattle.sdd_lists.specs.declared.refusal.NotMade.{NotMade}
use Rattle.world_containers.specs.declared.refusal.FromIterRefused.{FromIterRefused}
use Rattle.world_containers.specs.declared.refusal.FromIterRefused.TheVariants as from_iter
use Rattle.world_containers.specs.declared.refusal.CloneRefused.{CloneRefused}
use Rattle.world_containers.specs.declared.refusal.CloneRefused.TheVariants as copied

-- the values of entries
abbrev pub entry_values : {T : Type 0} → List (Entry (LinkedEntry T)) → List T
entry_values [] = []
entry_values (e ∷ es) = entry_value e.item ∷ entry_values es

-- clear entries of these values, in their order, made of slots and cells that were free
abbrev pub AreNew : {T : Type 0} → State (LinkedEntry T) → List T → List (Entry (LinkedEntry T)) → Type 0
AreNew w [] [] = Unit {0}
AreNew w [] (e ∷ es) = ⊥
AreNew w (v ∷ vs) [] = ⊥
AreNew w (v ∷ vs) (e ∷ es) = IsNew w v e × AreNew w vs es

-- a queue of new entries of these values hangs from cells that were free
pub record FillsQueue {T : Type 0} (w w' : State (LinkedEntry T)) (c d : ℕ) (vs : List T) : Type 0 where
  pub oldest : IsFreeCell w c
  pub newest : IsFreeCell w d
  pub entries : List (Entry (LinkedEntry T))
  pub is : IsQueue entry_link w' c d entries
  pub new : AreNew w vs entries

-- a stack of new entries of these values, the newest first, hangs from a cell that was free
pub record FillsStack {T : Type 0} (w w' : State (LinkedEntry T)) (c : ℕ) (vs : List T) : Type 0 where
  pub newest : IsFreeCell w c
  pub entries : List (Entry (LinkedEntry T))
  pub is : IsStack w' c entries
  pub new : AreNew w vs entries

-- a bag of new entries of these values, of which the first ones are in the primary, and others where that is full alone
pub record FillsBag {T : Type 0} (n : ℕ) (w w' : State (LinkedEntry T)) (cs : List ℕ) (vs : List T) : Type 0 where
  pub free : AreFreeCells w cs
  pub first : List (Entry (LinkedEntry T))
  pub others : List (Entry (LinkedEntry T))
  pub new : AreNew w vs (first ++ others)
  pub primary : List (Entry (LinkedEntry T))
  pub overflow : List (Entry (LinkedEntry T))
  pub is : IsBag n w' cs primary overflow
  pub in_primary : IsSameBag primary first
  pub in_overflow : IsSameBag overflow others
  pub full : length first < n → others ≡ []

-- a new entry of the value was put behind a queue
pub record Extends {T : Type 0} (w w' : State (LinkedEntry T)) (value : T) (c d : ℕ) : Type 0 where
  pub entry : Entry (LinkedEntry T)
  pub new : IsNew w value entry
  pub puts : (es : List (Entry (LinkedEntry T))) → IsQueue entry_link w c d es → IsQueue entry_link w' c d (es ++ entry ∷ [])

-- a new entry of the value was put at cell c, the end of a list, and d is the end now
pub record ExtendsLast {T : Type 0} (w w' : State (LinkedEntry T)) (value : T) (c d : ℕ) : Type 0 where
  pub entry : Entry (LinkedEntry T)
  pub new : IsNew w value entry
  pub at : d ≡ entry.link
  pub empty : cell_at w' d ≡ cell.OfShared None tag.None
  pub puts : (b : ℕ) (t : Tag) (es : List (Entry (LinkedEntry T))) → IsList entry_link w b t es → c ≡ end_cell b es → IsList entry_link w' b t (es ++ entry ∷ [])

-- a list begins with an entry whose link is cell c, and o is its value, or none where it is deleted
pub record Copies {T : Type 0} (es : List (Entry (LinkedEntry T))) (c : ℕ) (o : Option T) : Type 0 where
  pub first : Entry (LinkedEntry T)
  pub rest : List (Entry (LinkedEntry T))
  pub is : es ≡ first ∷ rest
  pub at : c ≡ first.link
  pub value : o ≡ cond (deleted first.tag) None (Some (entry_value first.item))

-- a list begins with an undeleted entry whose value can't always be cloned
pub record CantCopy {T : Type 0} (is_infallible : T → Type 0) (es : List (Entry (LinkedEntry T))) : Type 0 where
  pub first : Entry (LinkedEntry T)
  pub rest : List (Entry (LinkedEntry T))
  pub is : es ≡ first ∷ rest
  pub kept : deleted first.tag ≡ false
  pub refused : ¬ is_infallible (entry_value first.item)

-- what holds of a refusal: where nothing was made, and where a value found no place
abbrev pub IfUnmade : {C T I : Type 0} → FromIterRefused C T I → (NotMade → I → Type 0) → Type 0
IfUnmade (from_iter.Unmade r values) P = P r values
IfUnmade (from_iter.NoSlot built v) P = Unit {0}

abbrev pub IfNoSlot : {C T I : Type 0} → FromIterRefused C T I → (C → T → Type 0) → Type 0
IfNoSlot (from_iter.Unmade r values) P = Unit {0}
IfNoSlot (from_iter.NoSlot built v) P = P built v

-- the same of a clone: where nothing was made, and where there is no next entry
abbrev pub IfUncopied : {C : Type 0} → CloneRefused C → (NotMade → Type 0) → Type 0
IfUncopied (copied.Unmade r) P = P r
IfUncopied (copied.Partly built r) P = Unit {0}

abbrev pub IfPartly : {C : Type 0} → CloneRefused C → (C → NotMade → Type 0) → Type 0
IfPartly (copied.Unmade r) P = Unit {0}
IfPartly (copied.Partly built r) P = P built r
