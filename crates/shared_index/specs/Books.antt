-- what is seen of a book, and what its calls may answer
use Rattle.std.specs.Prelude.{◌≡◌, ℕ, ◌+◌, ◌<◌, List, ◌++◌, ◌∷◌, []}
use Rattle.std.specs.declared.cmp.Ordering.{Ordering}
use Rattle.atomic_table.specs.Seated.{TableId}
use Rattle.sdd_plain.specs.declared.sizes.Sizes.{Sizes}
use Rattle.sdd_domain.specs.CellSteps.{CellStep, NamesWith, step_on}
use Rattle.sdd_domain.specs.Tokens.{home_of}
use Rattle.sdd_domain.specs.declared.local.Local.{Local}
use Rattle.shared_versions.specs.declared.node.Node.{Node}
use Rattle.serial_history.specs.Histories.{transaction_on}
use Rattle.serial_history.specs.Histories as histories
use Rattle.version_views.specs.declared.write.Write.{Write}
use Rattle.version_views.specs.declared.write.WriteRefused.{WriteRefused}
use Rattle.version_views.specs.declared.write.WriteRefused.TheVariants as writes
use Rattle.serial_history.specs.Serial.{Base, Read, after_all, base_at, history_behind, latest, list_numbered}
use Rattle.serial_history.specs.declared.transaction.Audit.{Audit}
use Rattle.serial_history.specs.declared.transaction.Receipt.{Receipt}
use Rattle.serial_history.specs.declared.transaction.Transaction.{Transaction}
use Rattle.serial_history.specs.declared.commit.Cause.{Cause}
use Rattle.serial_history.specs.declared.commit.Cause.TheVariants as causes
use Rattle.serial_history.specs.declared.commit.CheckpointRefused.{CheckpointRefused}
use Rattle.serial_history.specs.declared.commit.CheckpointRefused.TheVariants as checkpoints
use Rattle.shared_index.specs.declared.book.NewRefused.{NewRefused}
use Rattle.shared_index.specs.declared.book.NewRefused.TheVariants as news

-- the base, the transactions that were accepted since, and the last number; of the participant who acts for the book, how often
-- it was refused a slot, a cell or one more owner, and its steps on cells
pub record BookState (K V : Type 0) : Type 0 where
  pub base : Base K V
  pub history : List (Transaction K V)
  pub last : ℕ
  pub misses : ℕ
  pub cell_steps : List CellStep

-- a book of this base, without history
abbrev pub fresh_book : {K V : Type 0} → Base K V → (last misses : ℕ) → List CellStep → BookState K V
fresh_book base last misses steps = record { base = base; history = []; last = last; misses = misses; cell_steps = steps }

-- it is that one, whatever steps were made
abbrev pub IsFreshBook : {K V : Type 0} → Base K V → (last misses : ℕ) → BookState K V → Type 0
IsFreshBook base last misses b = b ≡ fresh_book base last misses b.cell_steps

-- what the misses are after a commit that was refused for this cause: one more for want of a slot, else as many
abbrev pub misses_after : Cause → ℕ → ℕ
misses_after (causes.Conflict place) misses = misses
misses_after causes.Exhausted misses = misses
misses_after causes.Memory misses = misses
misses_after causes.NoSlot misses = misses + 1

-- and after a version that wasn't placed
abbrev pub misses_told : WriteRefused → ℕ → ℕ
misses_told writes.Memory misses = misses
misses_told writes.NoSlot misses = misses + 1

-- and after a book that wasn't made
abbrev pub misses_without : NewRefused → ℕ → ℕ
misses_without news.Memory misses = misses
misses_without news.NoSlot misses = misses + 1

-- the number that was asked for lies below the base's, or above the present one, as a refused checkpoint says
abbrev pub LiesOutside : ℕ → CheckpointRefused → Type 0
LiesOutside upto (checkpoints.Behind number) = upto < number
LiesOutside upto (checkpoints.Ahead number) = number < upto
LiesOutside upto checkpoints.Memory = Unit {0}

-- the one step on a cell since, by a participant of this place, left an item in this cell, without a tag
abbrev pub HasPutItem : {K V : Type 0} → TableId × Sizes → ℕ → (old new : BookState K V) → Type 0
HasPutItem {K} {V} place cell old new = (l : Local (Node K V)) × (w : ℕ) × (v : ℕ) × (k : ℕ) × (home_of l ≡ place) × NamesWith v 0 (k + 1) × (new.cell_steps ≡ old.cell_steps ++ step_on l cell w v ∷ [])

-- the number of the present list
abbrev pub latest_number : {K V : Type 0} → BookState K V → ℕ
latest_number b = latest b.base b.history

module _ {K V : Type 0} (cmp : K → K → Ordering) where
  -- the list that all transactions leave, and that of a number
  abbrev pub present_list : BookState K V → List (K × V)
  present_list b = after_all cmp b.history b.base.pairs

  abbrev pub list_at : BookState K V → ℕ → List (K × V)
  list_at b number = list_numbered cmp b.base b.history number

  -- the transaction of these reads and writes, with the replies that the writes get on the present list
  abbrev pub transaction_of : BookState K V → List (Read K V) → List (Write K V) → Transaction K V
  transaction_of b reads writes = transaction_on cmp (present_list b) reads writes

  -- that transaction comes behind the others
  abbrev pub with_commit : List (Read K V) → List (Write K V) → BookState K V → BookState K V
  with_commit reads writes b = record b { history = b.history ++ transaction_of b reads writes ∷ [] }

  -- the list of this number becomes the base, and the transactions up to it are dropped
  abbrev pub begun_at : ℕ → BookState K V → BookState K V
  begun_at upto b = record b { base = base_at cmp b.base b.history upto; history = history_behind b.base b.history upto }

  -- each read holds of the present list, and the last number isn't reached
  abbrev pub MayAccept : BookState K V → List (Read K V) → Type 0
  MayAccept b reads = histories.MayAccept cmp (latest_number b) b.last (present_list b) reads

  -- why a commit that rests on these reads may be refused
  abbrev pub MayRefuse : BookState K V → List (Read K V) → Cause → Type 0
  MayRefuse b reads cause = histories.MayRefuse cmp (latest_number b) b.last (present_list b) reads cause

  -- whether the reads of a receipt hold of the list of its number, if the book has that
  abbrev pub Audits : BookState K V → Receipt K V → Audit → Type 0
  Audits b receipt audit = histories.Audits cmp b.base b.history receipt audit
