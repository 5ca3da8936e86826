-- walks along a list
use Rattle.std.specs.Prelude.{◌≡◌, ℕ, Option, None, Some, List, [], ◌∷◌}
use Rattle.sdd_world.specs.State.{State}
use Rattle.sdd_world.specs.Tokens.{link_cell}
use Rattle.sdd_world.specs.declared.tag.Tag.{Tag}
use Rattle.sdd_lists.specs.Chain.{Entry, IsList, undeleted}
use Rattle.sdd_lists.specs.Entries.{entry_value, entry_link}
use Rattle.sdd_lists.specs.declared.linked_entry.LinkedEntry.{LinkedEntry}
use Rattle.world_containers.specs.declared.iter.Iter.{Iter}

-- the cell from which the rest of the list hangs
abbrev pub iter_cell : {T : Type 0} → Iter T → ℕ
iter_cell i = link_cell i.at

-- whatever entries a walk is yet to pass
abbrev pub OfRest : {T : Type 0} → State (LinkedEntry T) → Iter T → (List (Entry (LinkedEntry T)) → Type 0) → Type 0
OfRest {T} w i P = (t : Tag) (es : List (Entry (LinkedEntry T))) → IsList entry_link w (iter_cell i) t es → P es

-- the value of the first entry, if there is one
abbrev pub first_value : {T : Type 0} → List (Entry (LinkedEntry T)) → Option T
first_value [] = None
first_value (e ∷ es) = Some (entry_value e.item)

-- what is left without the first entry, if there is one
abbrev pub rest_of : {X : Type 0} → List X → List X
rest_of [] = []
rest_of (x ∷ xs) = xs

-- a walk along a list is behind its first undeleted entry now
pub record Moves {T : Type 0} (w : State (LinkedEntry T)) (c : ℕ) (es : List (Entry (LinkedEntry T))) : Type 0 where
  pub tag : Tag
  pub rest : List (Entry (LinkedEntry T))
  pub hung : IsList entry_link w c tag rest
  pub same : undeleted rest ≡ rest_of (undeleted es)
