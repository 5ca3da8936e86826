-- where the words of a shared place lie: hot words of different threads are eight words apart
use Rattle.std.specs.Prelude.{◌≡◌, ℕ, suc, ◌+◌, ◌-◌, ◌*◌, ◌^◌, ◌<◌, ◌≤◌, min}
use Rattle.sdd_plain.specs.declared.sizes.Sizes.{Sizes}
use Rattle.sdd_steps.specs.declared.participant.Phase.{Phase}
use Rattle.sdd_steps.specs.declared.participant.Phase.TheVariants.{Idle, HasRead, Opened}

-- the count of raises, and the lock of scans
abbrev pub count_word : ℕ
count_word = 0

abbrev pub lock_word : ℕ
lock_word = 8

-- what a participant has published, and 0 while somebody acts for it, else one more than its spare slot
abbrev pub state_word : ℕ → ℕ
state_word p = 8 * p + 16

abbrev pub claim_word : ℕ → ℕ
claim_word p = 8 * p + 17

-- where what a participant left when it ended begins and ends
abbrev pub left_word : ℕ → ℕ
left_word p = 8 * p + 18

-- how many words the epochs of n participants take
abbrev pub epoch_words : ℕ → ℕ
epoch_words n = 8 * n + 16

-- behind these the words of cells, and those of slots
abbrev pub cell_word : Sizes → ℕ → ℕ
cell_word sizes c = epoch_words sizes.participants + c

abbrev pub slot_word : Sizes → ℕ → ℕ
slot_word sizes k = epoch_words sizes.participants + sizes.cells + k

-- and behind these the link words of slots
abbrev pub link_word : Sizes → ℕ → ℕ
link_word sizes k = epoch_words sizes.participants + sizes.cells + sizes.slots + k

abbrev pub all_words : Sizes → ℕ
all_words sizes = epoch_words sizes.participants + sizes.cells + sizes.slots + sizes.slots

-- The slots of the table: homes, those of each participant together, one for each slot for items, and behind them one more for each slot, that of its deed; then spare ones, one for each cell and participant.
abbrev pub all_homes : Sizes → ℕ
all_homes sizes = sizes.slots * suc sizes.participants

-- how many of the homes are those of participants: the deeds' homes lie behind them
abbrev pub own_homes : Sizes → ℕ
own_homes sizes = sizes.participants * sizes.slots

abbrev pub all_spares : Sizes → ℕ
all_spares sizes = sizes.cells + sizes.participants

-- the word of a cell: its spare slot, its tag, and the code of what it names
abbrev pub packed : ℕ → ℕ → ℕ → ℕ
packed y t k = y + 2 ^ 31 * (t + 4 * k)

-- the word of a cell has this spare slot and this code, whatever the tag
abbrev pub Tells : ℕ → ℕ → ℕ → Type 0
Tells w y k = (t : ℕ) × (t < 4) × (w ≡ packed y t k)

-- the word of a cell has this tag, and names what this code says
abbrev pub NamesWith : ℕ → ℕ → ℕ → Type 0
NamesWith w t k = (y : ℕ) × (y < 2 ^ 31) × (t < 4) × (w ≡ packed y t k)

-- two words of a cell that differ in the tag alone
abbrev pub AreAlike : ℕ → ℕ → Type 0
AreAlike v w = (y : ℕ) × (t : ℕ) × (u : ℕ) × (k : ℕ) × (y < 2 ^ 31) × (t < 4) × (u < 4) × (v ≡ packed y t k) × (w ≡ packed y u k)

-- The whole count is published. The last two counts share a word: the last one is published only where no raise follows.
abbrev pub shown : Phase → ℕ
shown Idle = 0
shown (HasRead e) = 0
shown (Opened e) = min (e + 1) (2 ^ 64 - 1)

abbrev pub IsSized : Sizes → Type 0
IsSized sizes = (1 ≤ sizes.participants) × (sizes.participants ≤ 2 ^ 30) × (sizes.slots ≤ 2 ^ 30) × (sizes.cells ≤ 2 ^ 30) × (sizes.jobs ≤ 2 ^ 30)
