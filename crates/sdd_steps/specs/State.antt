-- the state of the single steps, as callers see it
use Rattle.std.specs.Prelude.{◌≡◌, ◌⊎◌, ℕ, ◌+◌, ◌==◌, ◌||◌, ◌&&◌, nat_lt, Bool, false, cond, None, List, [], ◌∷◌, get_or, set, length, replicate}
use mathlib.Core.Option.{some}
use lib.ListN.{get_elem?}
use Rattle.sdd_steps.specs.declared.participant.Phase.TheVariants.{Idle}
use Rattle.sdd_steps.specs.declared.item.ItemState.TheVariants.{Waiting}
use Rattle.sdd_steps.specs.declared.participant.Participant.{Participant}
use Rattle.sdd_steps.specs.declared.item.Item.{Item}
use Rattle.sdd_steps.specs.declared.item.Cell.{Cell}

-- the count of raises, the participants, the cells (the first one is the root), and the items in the order of placing
pub record State : Type 0 where
  pub count : ℕ
  pub participants : List Participant
  pub cells : List Cell
  pub items : List Item

-- a participant that never had a guard, an empty cell without a holder, and what a number out of range names
abbrev pub newcomer : Participant
newcomer = record { phase = Idle; found = 0; reread = None; looked = []; loaded = [] }

abbrev pub empty_cell : Cell
empty_cell = record { holder = None; names = None }

abbrev pub no_item : Item
no_item = record { value = 0; hand = 0; owners = 0; holds = []; state = Waiting }

abbrev pub participant_at : State → ℕ → Participant
participant_at s p = get_or s.participants p newcomer

abbrev pub cell_at : State → ℕ → Cell
cell_at s c = get_or s.cells c empty_cell

abbrev pub item_at : State → ℕ → Item
item_at s i = get_or s.items i no_item

-- one participant, cell or item is there and passes a test
abbrev pub participant_is : (Participant → Bool) → State → ℕ → Bool
participant_is test s p = nat_lt p (length s.participants) && test (participant_at s p)

abbrev pub cell_is : (Cell → Bool) → State → ℕ → Bool
cell_is test s c = nat_lt c (length s.cells) && test (cell_at s c)

abbrev pub item_is : (Item → Bool) → State → ℕ → Bool
item_is test s i = nat_lt i (length s.items) && test (item_at s i)

-- one participant, cell or item is replaced
abbrev pub with_participant : State → ℕ → Participant → State
with_participant s p x = record s { participants = set s.participants p x }

abbrev pub with_cell : State → ℕ → Cell → State
with_cell s c o = record s { cells = set s.cells c o }

abbrev pub with_item : State → ℕ → Item → State
with_item s i it = record s { items = set s.items i it }

-- no guard, nothing loaded, no item; all cells empty and by themselves
abbrev pub start : ℕ → ℕ → State
start participants cells = record { count = 0; participants = replicate participants newcomer; cells = replicate cells empty_cell; items = [] }

-- the list has x at place i
abbrev pub At : {A : Type 0} → List A → ℕ → A → Type 0
At xs i x = get_elem? xs i ≡ some x

-- the list has x
abbrev pub Has : {A : Type 0} → List A → A → Type 0
Has [] y = ⊥
Has (x ∷ xs) y = (x ≡ y) ⊎ Has xs y

-- 1 for the number i
abbrev pub one_if_same : ℕ → ℕ → ℕ
one_if_same i j = cond (j == i) 1 0

-- whether a list of numbers has i, and how often
abbrev pub has : ℕ → List ℕ → Bool
has i [] = false
has i (j ∷ js) = (j == i) || has i js

abbrev pub times : ℕ → List ℕ → ℕ
times i [] = 0
times i (j ∷ js) = one_if_same i j + times i js

-- the list without its first i
abbrev pub without : ℕ → List ℕ → List ℕ
without i [] = []
without i (j ∷ js) = cond (j == i) js (j ∷ without i js)
