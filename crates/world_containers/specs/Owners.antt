-- owners that are given back beside a list
use Rattle.std.specs.Prelude.{◌≡◌, ℕ, ◌≤◌, ◌++◌, Option, List, [], ◌∷◌}
use Rattle.sdd_world.specs.State.{State, status_at}
use Rattle.sdd_world.specs.Steps.{released}
use Rattle.sdd_world.specs.declared.tag.Tag.{Tag}
use Rattle.sdd_world.specs.declared.status.Status.TheVariants as status
use Rattle.world_containers.specs.Queues.{IsQueue}
use Rattle.world_containers.specs.Bags.{IsBag}
use Rattle.sdd_lists.specs.declared.linked_entry.LinkedEntry.{LinkedEntry}
use Rattle.sdd_lists.specs.Chain.{Entry, IsList, Leaves, AreOut, IsOut, links, slots}

-- giving back one owner of several leaves every list
abbrev pub SpareOwners : {L : Type 0} → (L → Option ℕ) → Type 0
SpareOwners {L} link = (p i n c : ℕ) (t : Tag) (es : List (Entry L)) (w : State L) → status_at w i ≡ status.Shared n → 2 ≤ n → IsList link w c t es → IsList link (released p i w) c t es

-- a list stays where a call leaves its cells and its items
abbrev pub ListsStay : {L : Type 0} → (L → Option ℕ) → Type 0
ListsStay {L} link = (cs is : List ℕ) (c : ℕ) (t : Tag) (es : List (Entry L)) (w w' : State L) → Leaves cs is w w' → IsOut c cs → AreOut (links es) cs → AreOut (slots es) is → IsList link w c t es → IsList link w' c t es

-- a queue stays where a call leaves its cells and its items
abbrev pub QueuesStay : {L : Type 0} → (L → Option ℕ) → Type 0
QueuesStay {L} link = (cs is : List ℕ) (c d : ℕ) (es : List (Entry L)) (w w' : State L) → Leaves cs is w w' → IsOut c cs → IsOut d cs → AreOut (links es) cs → AreOut (slots es) is → IsQueue link w c d es → IsQueue link w' c d es

-- a bag stays where a call leaves its cells and its items
abbrev pub BagsStay : Type 0 → Type 0
BagsStay T = (n : ℕ) (cs is ds : List ℕ) (ps os : List (Entry (LinkedEntry T))) (w w' : State (LinkedEntry T)) → Leaves cs is w w' → AreOut (ds ++ links (os ++ ps)) cs → AreOut (slots (os ++ ps)) is → IsBag n w ds ps os → IsBag n w' ds ps os

-- giving an owner back changes no other item, and no cell
abbrev pub ReleasesLeave : Type 0 → Type 0
ReleasesLeave L = (p i : ℕ) (w : State L) → Leaves [] (i ∷ []) w (released p i w)

-- giving back one owner of at least three leaves every queue
abbrev pub SpareQueueOwners : {L : Type 0} → (L → Option ℕ) → Type 0
SpareQueueOwners {L} link = (p i n c d : ℕ) (es : List (Entry L)) (w : State L) → status_at w i ≡ status.Shared n → 3 ≤ n → IsQueue link w c d es → IsQueue link (released p i w) c d es
