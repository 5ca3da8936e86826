-- what calls say of a container, in a line each
use Rattle.std.specs.Prelude.{◌≡◌, ◌≢◌, ℕ, ◌⊎◌, ◌++◌, Option, None, Some, IfSome, List, [], ◌∷◌, option_copied, ◌<◌, ◌≤◌, length, MatchOption, map, reverse}
use Rattle.std.specs.Borrow.{Bor}
use Rattle.std.specs.Iterator.{Drains, YieldsThen}
use Rattle.sdd_world.specs.State.{State, IsFreeCell, status_at, cell_at}
use Rattle.sdd_world.specs.Steps.{released}
use Rattle.sdd_world.specs.Tokens.{shared_cell, shared_slot}
use Rattle.sdd_world.specs.declared.cell.AtomicShared.{AtomicShared}
use Rattle.sdd_world.specs.declared.owner.Shared.{Shared}
use Rattle.sdd_world.specs.declared.status.Cell.TheVariants as cell
use Rattle.sdd_world.specs.declared.status.Status.TheVariants as status
use Rattle.sdd_world.specs.declared.tag.Tag.{Tag}
use Rattle.sdd_world.specs.declared.tag.Tag.TheVariants as tag
use Rattle.world_containers.specs.Bags.{IsBag, IsSomeBag, bag_cells, IsRow, joined, IsSameBag, AreOwn, AreSpare, PutsPrimary, PutsOverflow, TakesOne}
use Rattle.sdd_lists.specs.Chain.{Entry, IsDetached, Leaves, first_item, first_slot, links, skip, slots, undeleted}
use Rattle.sdd_lists.specs.Entries.{entry_link}
pub use Rattle.sdd_lists.specs.Calls.{NoRoom, OfList, OnlyList}
use Rattle.world_containers.specs.Queues.{Appends, IsQueue, IsSomeQueue, KeepsQueue, Takes, newest_cell, oldest_cell, Follows, cell_vacated}
use Rattle.world_containers.specs.Stacks.{IsStack, Pops, stack_cell}
use Rattle.world_containers.specs.declared.bag.Bag.{Bag}
use Rattle.sdd_lists.specs.declared.linked_entry.LinkedEntry.{LinkedEntry}
use Rattle.world_containers.specs.declared.queue.Queue.{Queue}
use Rattle.sdd_lists.specs.declared.refusal.NotMade.{NotMade}
use Rattle.sdd_lists.specs.declared.refusal.NotMade.TheVariants as causes
use Rattle.world_containers.specs.declared.stack.Stack.{Stack}
use Rattle.world_containers.specs.FromIter.{ExtendsLast, FillsBag, FillsQueue, FillsStack, entry_values}
use Rattle.world_containers.specs.MutableIteration.{Finds, IsLeft}

-- no two cells are free
abbrev pub NoTwoCells : {L : Type 0} → State L → Type 0
NoTwoCells w = (c : ℕ) (d : ℕ) → IsFreeCell w c → IsFreeCell w d → c ≡ d

module _ {T : Type 0} where
  -- the entries of a stack
  abbrev pub StackIn : State (LinkedEntry T) → Stack T → List (Entry (LinkedEntry T)) → Type 0
  StackIn w s es = IsStack w (stack_cell s) es

  -- of what is in use, at most this stack changes: its cell, its links and its entries
  abbrev pub OnlyStack : State (LinkedEntry T) → State (LinkedEntry T) → Stack T → Type 0
  OnlyStack w w' s = (es : List (Entry (LinkedEntry T))) → StackIn w s es → Leaves (stack_cell s ∷ links es) (slots es) w w'

  -- the entries of a queue
  abbrev pub QueueIn : State (LinkedEntry T) → Queue T → List (Entry (LinkedEntry T)) → Type 0
  QueueIn w q es = IsQueue entry_link w (oldest_cell q) (newest_cell q) es

  abbrev pub SomeQueueIn : State (LinkedEntry T) → Queue T → Type 0
  SomeQueueIn w q = IsSomeQueue entry_link w (oldest_cell q) (newest_cell q)

  -- the queue has the same undeleted entries
  abbrev pub KeepsEntries : State (LinkedEntry T) → Queue T → List (Entry (LinkedEntry T)) → Type 0
  KeepsEntries w q es = KeepsQueue entry_link w (oldest_cell q) (newest_cell q) es

  -- of what is in use, at most this queue changes: its cells, its links and its entries
  abbrev pub OnlyQueue : State (LinkedEntry T) → State (LinkedEntry T) → Queue T → Type 0
  OnlyQueue w w' q = (es : List (Entry (LinkedEntry T))) → QueueIn w q es → Leaves (oldest_cell q ∷ newest_cell q ∷ links es) (slots es) w w'

  -- the entries of a bag, those of the primary and those of the overflow
  abbrev pub BagIn : {n : ℕ} → State (LinkedEntry T) → Bag T n → List (Entry (LinkedEntry T)) → List (Entry (LinkedEntry T)) → Type 0
  BagIn {n} w b ps os = IsBag n w (bag_cells b) ps os

  abbrev pub SomeBagIn : {n : ℕ} → State (LinkedEntry T) → Bag T n → Type 0
  SomeBagIn {n} w b = IsSomeBag n w (bag_cells b)

  -- the first undeleted entry has as many owners as there can be
  abbrev pub FirstIsFull : State (LinkedEntry T) → List (Entry (LinkedEntry T)) → Type 0
  FirstIsFull w es = IfSome (first_slot (undeleted es)) (λ i. status_at w i ≡ status.Shared 4294967295)

  -- a function may be called at the first undeleted entry, or none, of a container
  abbrev pub CanAskFirst : {F : Type 0} → (F → Option (Bor (LinkedEntry T)) → Type 0) → F → (List (Entry (LinkedEntry T)) → Type 0) → Type 0
  CanAskFirst pre f is = (es : List (Entry (LinkedEntry T))) (o : Option (Bor (LinkedEntry T))) → is es → option_copied o ≡ first_item (undeleted es) → pre f o

  -- what it returned there
  abbrev pub AskedFirst : {F R : Type 0} → (F → Option (Bor (LinkedEntry T)) → R → Type 0) → F → (List (Entry (LinkedEntry T)) → Type 0) → R → Type 0
  AskedFirst post f is r = (es : List (Entry (LinkedEntry T))) → is es → (o : Option (Bor (LinkedEntry T))) × (option_copied o ≡ first_item (undeleted es)) × post f o r

  -- the values of a collection up to its end
  abbrev pub GivesAll : {C It : Type 0} → (C → It → Type 0) → (It → Option T → It → Type 0) → C → (List T → Type 0) → Type 0
  GivesAll {It = It} begins next values P = (it : It) × (vs : List T) × begins values it × Drains next it vs × P vs

  -- and those before the value v
  abbrev pub GivesUpTo : {C It : Type 0} → (C → It → Type 0) → (It → Option T → It → Type 0) → C → T → (List T → Type 0) → Type 0
  GivesUpTo {It = It} begins next values v P = (it : It) × (vs : List T) × (rest : It) × begins values it × YieldsThen next it vs (Some v) rest × P vs

  -- clones of the first values of a list, up to one that has no room or can't be cloned
  abbrev pub CopiesUpTo : (T → Type 0) → List T → NotMade → Type 0 → (List T → Type 0) → Type 0
  CopiesUpTo is_infallible values cause NoPlace P = (vs : List T) × (v : T) × (more : List T) × (values ≡ vs ++ v ∷ more) × P vs × (cause ≡ causes.NoSlot → NoPlace) × (cause ≡ causes.Memory → ¬ is_infallible v)

  -- a new entry of the value was put behind a queue, and this is another owner of it
  abbrev pub AppendsTo : State (LinkedEntry T) → State (LinkedEntry T) → Queue T → T → Shared (LinkedEntry T) → Type 0
  AppendsTo w w' q value s = Appends w w' value (oldest_cell q) (newest_cell q) (shared_slot s)

  -- the owner is that of the first undeleted entry, which was taken from a queue
  abbrev pub TakesFrom : State (LinkedEntry T) → Queue T → Shared (LinkedEntry T) → List (Entry (LinkedEntry T)) → Type 0
  TakesFrom w' q s es = Takes w' (oldest_cell q) (newest_cell q) (shared_slot s) es

  -- the same of a stack
  abbrev pub PopsFrom : State (LinkedEntry T) → Stack T → Shared (LinkedEntry T) → List (Entry (LinkedEntry T)) → Type 0
  PopsFrom w' stack s es = Pops w' (stack_cell stack) (shared_slot s) es

  -- the first undeleted entry was taken from a queue, with this owner, or there is none and the queue is empty
  abbrev pub TakesOldest : State (LinkedEntry T) → State (LinkedEntry T) → Queue T → Option (Shared (LinkedEntry T)) → Type 0
  TakesOldest w w' q taken = (es : List (Entry (LinkedEntry T))) → QueueIn w q es → MatchOption taken ((undeleted es ≡ []) × QueueIn w' q []) (λ s. TakesFrom w' q s es)

  -- the same of a stack
  abbrev pub PopsNewest : State (LinkedEntry T) → State (LinkedEntry T) → Stack T → Option (Shared (LinkedEntry T)) → Type 0
  PopsNewest w w' stack taken = (es : List (Entry (LinkedEntry T))) → StackIn w stack es → MatchOption taken ((undeleted es ≡ []) × StackIn w' stack []) (λ s. PopsFrom w' stack s es)

  -- a further owner of the first undeleted entry of a queue: once it is given back, only deleted entries in front are gone
  abbrev pub SparesOldest : State (LinkedEntry T) → State (LinkedEntry T) → Queue T → Shared (LinkedEntry T) → Type 0
  SparesOldest w w' q s = (p : ℕ) (es : List (Entry (LinkedEntry T))) → QueueIn w q es → undeleted es ≢ [] → QueueIn (released p (shared_slot s) w') q (skip es)

  -- of what is in use, at most the cells and links of a bag change
  abbrev pub OnlyLinksOf : {n : ℕ} → State (LinkedEntry T) → State (LinkedEntry T) → Bag T n → Type 0
  OnlyLinksOf w w' b = (ps : List (Entry (LinkedEntry T))) (os : List (Entry (LinkedEntry T))) → BagIn w b ps os → Leaves (bag_cells b ++ links (os ++ ps)) [] w w'

  -- and its entries
  abbrev pub OnlyBag : {n : ℕ} → State (LinkedEntry T) → State (LinkedEntry T) → Bag T n → Type 0
  OnlyBag w w' b = (ps : List (Entry (LinkedEntry T))) (os : List (Entry (LinkedEntry T))) → BagIn w b ps os → Leaves (bag_cells b ++ links (os ++ ps)) (slots (os ++ ps)) w w'

  -- a new entry of the value is in the primary of a bag, which had room
  abbrev pub PutsIntoPrimary : {n : ℕ} → State (LinkedEntry T) → State (LinkedEntry T) → Bag T n → T → Type 0
  PutsIntoPrimary {n} w w' b value = (ps : List (Entry (LinkedEntry T))) (os : List (Entry (LinkedEntry T))) → BagIn w b ps os → (length ps < n) × PutsPrimary n w w' value (bag_cells b) ps os

  -- a new entry of the value is in the primary of a bag if that has room, and else in the overflow
  abbrev pub PutsInto : {n : ℕ} → State (LinkedEntry T) → State (LinkedEntry T) → Bag T n → T → Type 0
  PutsInto {n} w w' b value = (ps : List (Entry (LinkedEntry T))) (os : List (Entry (LinkedEntry T))) → BagIn w b ps os → ((length ps < n) × PutsPrimary n w w' value (bag_cells b) ps os) ⊎ ((length ps ≡ n) × PutsOverflow n w w' value (bag_cells b) ps os)

  -- one entry of a bag was taken, or there is none
  abbrev pub TakesFromBag : {n : ℕ} → State (LinkedEntry T) → State (LinkedEntry T) → Bag T n → Option (Shared (LinkedEntry T)) → Type 0
  TakesFromBag {n} w w' b taken = (ps : List (Entry (LinkedEntry T))) (os : List (Entry (LinkedEntry T))) → BagIn w b ps os → MatchOption taken ((ps ≡ []) × (os ≡ []) × BagIn w' b [] []) (λ s. TakesOne n w' (bag_cells b) (shared_slot s) ps os)

  -- all entries of a bag were taken, in some order, and each has one owner more
  abbrev pub TakesAll : {n : ℕ} → State (LinkedEntry T) → State (LinkedEntry T) → Bag T n → (List (Entry (LinkedEntry T)) → Type 0) → Type 0
  TakesAll w w' b P = (ps : List (Entry (LinkedEntry T))) (os : List (Entry (LinkedEntry T))) → BagIn w b ps os → (es : List (Entry (LinkedEntry T))) × IsSameBag es (os ++ ps) × AreOwn w' es × AreSpare w' es × P es

  -- a container that was made has new entries of these values: a queue, the oldest first
  abbrev pub IsNewQueue : State (LinkedEntry T) → State (LinkedEntry T) → Queue T → List T → Type 0
  IsNewQueue w w' q vs = FillsQueue w w' (oldest_cell q) (newest_cell q) vs

  -- a stack, the first one in front
  abbrev pub IsNewStack : State (LinkedEntry T) → State (LinkedEntry T) → Stack T → List T → Type 0
  IsNewStack w w' s vs = FillsStack w w' (stack_cell s) vs

  -- a stack, the last one in front
  abbrev pub IsStacked : State (LinkedEntry T) → State (LinkedEntry T) → Stack T → List T → Type 0
  IsStacked w w' s vs = IsNewStack w w' s (reverse vs)

  -- a bag
  abbrev pub IsNewBag : {n : ℕ} → State (LinkedEntry T) → State (LinkedEntry T) → Bag T n → List T → Type 0
  IsNewBag {n} w w' b vs = FillsBag n w w' (bag_cells b) vs

  -- a new entry of the value is at the end of a list, which was cell c and is cell d; without a value nothing has changed
  abbrev pub AddsLast : State (LinkedEntry T) → State (LinkedEntry T) → Option T → ℕ → ℕ → Type 0
  AddsLast w w' value c d = MatchOption value ((w' ≡ w) × (d ≡ c)) (λ v. ExtendsLast w w' v c d)

  -- a queue has clones of the first values of a list, up to one that has no room or can't be cloned
  abbrev pub CopiesQueueUpTo : (T → Type 0) → State (LinkedEntry T) → State (LinkedEntry T) → List (Entry (LinkedEntry T)) → Queue T → NotMade → Type 0
  CopiesQueueUpTo is_infallible w w' es q cause = CopiesUpTo is_infallible (entry_values (undeleted es)) cause (NoRoom w') (IsNewQueue w w' q)

  -- the same of a stack
  abbrev pub CopiesStackUpTo : (T → Type 0) → State (LinkedEntry T) → State (LinkedEntry T) → List (Entry (LinkedEntry T)) → Stack T → NotMade → Type 0
  CopiesStackUpTo is_infallible w w' es s cause = CopiesUpTo is_infallible (entry_values (undeleted es)) cause (NoRoom w') (IsNewStack w w' s)

  -- whatever entries a walk over these cells is yet to give
  abbrev pub OfWalk : State (LinkedEntry T) → List ℕ → (List (Entry (LinkedEntry T)) → Type 0) → Type 0
  OfWalk w cells P = (es : List (Entry (LinkedEntry T))) → IsLeft w cells es → P es

  -- such a walk finds its next entry in cell c, and those behind it hang from cells cs
  abbrev pub WalkFinds : State (LinkedEntry T) → List ℕ → ℕ → List ℕ → Type 0
  WalkFinds w cells c cs = OfWalk w cells (Finds w c cs)

  -- a walk over these cells is yet to give the entries of a bag
  abbrev pub WalksBag : ℕ → State (LinkedEntry T) → List ℕ → List ℕ → Type 0
  WalksBag n w bag cells = (ps : List (Entry (LinkedEntry T))) (os : List (Entry (LinkedEntry T))) → IsBag n w bag ps os → IsLeft w cells (os ++ ps)

module _ {L : Type 0} where
  -- whatever lists hang from these cells
  abbrev pub OfRow : (L → Option ℕ) → State L → List (AtomicShared L) → (List (List (Entry L)) → Type 0) → Type 0
  OfRow link w cells P = (rows : List (List (Entry L))) → length cells ≤ length rows → IsRow link w (map shared_cell cells) rows → P rows

  -- of what is in use, at most these lists change: their cells, their links and their entries
  abbrev pub OnlyRow : (L → Option ℕ) → State L → State L → List (AtomicShared L) → Type 0
  OnlyRow link w w' cells = OfRow link w cells (λ rows. Leaves (map shared_cell cells ++ links (joined rows)) (slots (joined rows)) w w')

  -- so many undeleted entries hang from these cells
  abbrev pub CountsRow : (L → Option ℕ) → State L → List (AtomicShared L) → ℕ → Type 0
  CountsRow link w cells n = (rows : List (List (Entry L))) → length rows ≡ length cells → IsRow link w (map shared_cell cells) rows → n ≡ length (undeleted (joined rows))

  -- the entry in slot i is the newest of a queue
  abbrev pub AppendsLast : (L → Option ℕ) → State L → State L → AtomicShared L → AtomicShared L → ℕ → Type 0
  AppendsLast link w w' oldest newest i = (es : List (Entry L)) (e : Entry L) → IsQueue link w (shared_cell oldest) (shared_cell newest) es → IsDetached link w e → Follows (shared_cell oldest) (shared_cell newest) es e → i ≡ e.slot → IsQueue link w' (shared_cell oldest) (shared_cell newest) (es ++ e ∷ []) × Leaves (e.link ∷ shared_cell oldest ∷ shared_cell newest ∷ links es) (slots es) w w'

  -- where the oldest cell is empty, p gives back what the newest one keeps
  abbrev pub ClearsNewest : ℕ → State L → State L → AtomicShared L → AtomicShared L → Type 0
  ClearsNewest p w w' oldest newest = (o : Option ℕ) (t : Tag) → cell_at w (shared_cell oldest) ≡ cell.OfShared None t → cell_at w (shared_cell newest) ≡ cell.OfShared o tag.None → w' ≡ cell_vacated p (shared_cell newest) o w
