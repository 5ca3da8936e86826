-- The rule of the table of a shared place: its words and views show a state of the single steps that meets their invariant.
use Rattle.std.specs.Prelude.{◌≡◌, ◌≢◌, true, ℕ, zero, suc, ◌+◌, ◌<◌, ◌≤◌, List, [], ◌∷◌, ◌++◌, length, replicate, slice_index}
use mathlib.Core.Option.{some}
use lib.ListN.{get_elem?}
use Rattle.atomic_table.specs.Table.{State}
use Rattle.sdd_steps.specs.declared.participant.Phase.TheVariants.{Idle, Opened}
use Rattle.sdd_steps.specs.declared.participant.Participant.{Participant}
use Rattle.sdd_steps.specs.State.{At, Has, newcomer, start}
use Rattle.sdd_steps.specs.State as steps
use Rattle.sdd_steps.specs.Steps.{Schedule}
use Rattle.sdd_steps.specs.declared.step.Step.{Step}
use Rattle.sdd_steps.specs.Invariant.{Inv}
use Rattle.sdd_homes.specs.Book.{Content, Book}
use Rattle.sdd_homes.specs.declared.Garbage.{Garbage}
use Rattle.domain_table.specs.Views.{of_participant, rested}
use Rattle.domain_table.specs.Items.{Items}
use Rattle.domain_table.specs.Layout.{count_word, lock_word, state_word, claim_word, left_word, epoch_words, shown}
use Rattle.domain_table.specs.Chains.{is_threaded, left_code}
use Rattle.domain_table.specs.declared.board.Acting.{Acting}
use Rattle.domain_table.specs.declared.board.Plan.{Plan}

-- What is true of the seat j, which acts for a participant. `born` is the count at each publication, and `scanner` the seat that has the scan lock.
module _ (participants : List Participant) (count : ℕ) (born : ℕ → ℕ) (words : List ℕ) (seat_of : ℕ → ℕ) (scanner : ℕ) (j : ℕ) where
  pub record Acts (d : Acting) : Type 0 where
    pub is : At participants d.number d.known
    pub seated : seat_of d.number ≡ j
    pub claimed : slice_index words (claim_word d.number) ≡ 0
    pub locked : 0 < d.scan → (slice_index words lock_word ≡ 1) × (scanner ≡ j)
    pub present : 1 < d.scan → d.known.phase ≡ Opened count
    pub begun : (e : ℕ) → d.known.phase ≡ Opened e → d.born ≡ born d.number
    pub still : d.known.phase ≡ Idle → d.known ≡ rested d.known.found

-- While a guard is open the count is raised at most once since its publication; who was looked at under the present count, and has an open guard, published at that count.
pub record Bounded (participants : List Participant) (count : ℕ) (born : ℕ → ℕ) : Type 0 where
  pub inside : (p : ℕ) (x : Participant) (e : ℕ) → At participants p x → x.phase ≡ Opened e → (e ≤ born p) × (born p ≤ count) × (count ≤ born p + 1)
  pub looks : (q : ℕ) (x : Participant) (p : ℕ) (y : Participant) (e : ℕ) → At participants q x → x.phase ≡ Opened count → Has x.looked p → At participants p y → y.phase ≡ Opened e → count ≤ born p

-- the words and views of the epochs, for n participants
pub record Epochs (n : ℕ) (state : steps.State) (born : ℕ → ℕ) (words : List ℕ) (views : List Acting) : Type 0 where
  pub seat_of : ℕ → ℕ
  pub scanner : ℕ
  pub wide : epoch_words n ≤ length words
  pub many : length state.participants ≡ n
  pub count_is : slice_index words count_word ≡ state.count
  pub states : (p : ℕ) (x : Participant) → At state.participants p x → slice_index words (state_word p) ≡ shown x.phase
  pub free : (p : ℕ) (x : Participant) → At state.participants p x → slice_index words (claim_word p) ≢ 0 → x ≡ newcomer
  pub seats : (j : ℕ) (d : Acting) → get_elem? views j ≡ some d → d.kind ≡ of_participant → Acts state.participants state.count born words seat_of scanner j d

-- Single steps lead from one state to another.
abbrev pub Runs : steps.State → steps.State → Type 0
Runs s t = (list : List Step) × Schedule s list t

-- a place begins without a guard and without an item, at the count that it is given
abbrev pub beginning : Plan → steps.State
beginning plan = record (start plan.sizes.participants plan.sizes.cells) { count = plan.first }

-- 0, 1, .. below n
abbrev pub numbers : ℕ → List ℕ
numbers zero = []
numbers (suc n) = numbers n ++ n ∷ []

-- the eight words of a participant that has the spare slot y: it is closed, and nobody acts for it
abbrev pub first_eight : ℕ → List ℕ
first_eight y = zero ∷ suc y ∷ replicate 6 zero

-- those of the participants below n, whose spare slots are behind those of this many cells
abbrev pub first_eights : ℕ → ℕ → List ℕ
first_eights cells zero = []
first_eights cells (suc n) = first_eights cells n ++ first_eight (cells + n)

-- the words of a new place: the count, 15 of 0, those of participants, those of cells, each of which has the spare slot of its own number, and two words of 0 for each slot
abbrev pub first_words : Plan → List ℕ
first_words plan = plan.first ∷ (replicate 15 zero ++ (first_eights plan.sizes.cells plan.sizes.participants ++ (numbers plan.sizes.cells ++ replicate (plan.sizes.slots + plan.sizes.slots) zero)))

-- what participants left when they ended, by their words
pub record Lefts (n : ℕ) (words : List ℕ) (left : ℕ → List Garbage) : Type 0 where
  pub told : (p : ℕ) → p < n → slice_index words (left_word p) ≡ left_code (left p)
  pub chained : (p : ℕ) → is_threaded (left p) ≡ true

-- Between any two steps: single steps have led from the beginning to a state that meets their invariant, and the words and views show it.
pub record Shows {S : Type 0} (IsIn : Content → S → Type 0) (plan : Plan) (s : State S Acting) : Type 0 where
  pub state : steps.State
  pub run : Runs (beginning plan) state
  pub kept : Inv state
  pub born : ℕ → ℕ
  pub bounded : Bounded state.participants state.count born
  pub epochs : Epochs plan.sizes.participants state born s.words s.views
  pub book : Book
  pub items : Items IsIn plan.sizes state book s.words s.homes s.views
  pub lefts : Lefts plan.sizes.participants s.words book.left
