-- how a seat and the words of a table fit what a call is handed
use Rattle.std.specs.Prelude.{◌≡◌, ℕ, ◌^◌, ◌<◌, ◌≤◌}
use Rattle.atomic_table.specs.Seated.{TableId}
use Rattle.atomic_table.specs.declared.shared.Seat.{Seat}
use Rattle.sdd_plain.specs.declared.sizes.Sizes.{Sizes}
use Rattle.domain_table.specs.Layout.{all_words, epoch_words, IsSized}
use Rattle.domain_table.specs.declared.board.Acting.{Acting}
use Rattle.domain_table.specs.declared.board.Home.{Home}
use Rattle.domain_table.specs.declared.board.Place.{Place}
use Rattle.domain_table.specs.Views.{of_participant}

module _ (table : TableId) (sizes : Sizes) (seat : TableId) where
  -- the seat is at the table, which has the words of this many participants, and of this cell
  abbrev pub FitsCell : ℕ → ℕ → Type 0
  FitsCell participants cell = (seat ≡ table) × (sizes.participants ≡ participants) × (participants ≤ 2 ^ 30) × (cell < sizes.cells) × (sizes.cells ≤ 2 ^ 30) × (all_words sizes ≤ table.words)

  -- the table has the words of epochs, of this many participants
  abbrev pub HasEpochs : ℕ → Type 0
  HasEpochs participants = (seat ≡ table) × (sizes.participants ≡ participants) × (epoch_words participants ≤ table.words) × (participants ≤ 2 ^ 30)

  -- and of this participant among them
  abbrev pub HasEpochOf : ℕ → Type 0
  HasEpochOf number = (seat ≡ table) × (number < sizes.participants) × (epoch_words sizes.participants ≤ table.words) × (sizes.participants ≤ 2 ^ 30)

  -- and the cells are few enough
  abbrev pub HasClaimOf : ℕ → Type 0
  HasClaimOf number = (seat ≡ table) × (number < sizes.participants) × (epoch_words sizes.participants ≤ table.words) × (sizes.participants ≤ 2 ^ 30) × (sizes.cells ≤ 2 ^ 30)

module _ (table : TableId) (sizes : Sizes) where
  -- the table has the words of this participant
  abbrev pub HasWordsOf : ℕ → Type 0
  HasWordsOf number = (number < sizes.participants) × (epoch_words sizes.participants ≤ table.words) × (sizes.participants ≤ 2 ^ 30)

module _ {T H : Type 0} (p : Place T H) where
  -- the table has the words of a place of these sizes
  abbrev pub HasWords : Type 0
  HasWords = (p.words.now.key.sizes ≡ p.sizes.now) × IsSized p.sizes.now × (all_words p.sizes.now ≤ p.words.now.table_id.words)

module _ {T H : Type 0} (p : Place T H) (seat : Seat (Home T) Acting) where
  -- the seat is at the table of the place, whose sizes it knows
  abbrev pub FitsSizes : Type 0
  FitsSizes = (seat.table_id ≡ p.words.now.table_id) × (p.words.now.key.sizes ≡ p.sizes.now) × (seat.me.0.sizes ≡ p.sizes.now) × IsSized p.sizes.now × (all_words p.sizes.now ≤ p.words.now.table_id.words)

  -- and this slot is one of the place
  abbrev pub FitsFree : ℕ → Type 0
  FitsFree slot = (seat.table_id ≡ p.words.now.table_id) × (p.words.now.key.sizes ≡ p.sizes.now) × (seat.me.0.sizes ≡ p.sizes.now) × IsSized p.sizes.now × (slot < p.sizes.now.slots) × (all_words p.sizes.now ≤ p.words.now.table_id.words)

  -- or it is a number to look from
  abbrev pub FitsSearch : ℕ → Type 0
  FitsSearch from = (seat.table_id ≡ p.words.now.table_id) × (p.words.now.key.sizes ≡ p.sizes.now) × (seat.me.0.sizes ≡ p.sizes.now) × IsSized p.sizes.now × (from < 2 ^ 63) × (all_words p.sizes.now ≤ p.words.now.table_id.words)

  -- or this participant is one of the place
  abbrev pub FitsNumber : ℕ → Type 0
  FitsNumber number = (seat.table_id ≡ p.words.now.table_id) × (p.words.now.key.sizes ≡ p.sizes.now) × (seat.me.0.sizes ≡ p.sizes.now) × IsSized p.sizes.now × (all_words p.sizes.now ≤ p.words.now.table_id.words) × (number < p.sizes.now.participants)

  -- or so are this participant and this cell
  abbrev pub FitsBoth : ℕ → ℕ → Type 0
  FitsBoth number cell = FitsSizes × (number < p.sizes.now.participants) × (cell < p.sizes.now.cells)

  -- the seat is at the table, which has the words of the place, and this slot is one of it
  abbrev pub HasSlotWord : ℕ → Type 0
  HasSlotWord slot = (seat.table_id ≡ p.words.now.table_id) × (p.words.now.key.sizes ≡ p.sizes.now) × IsSized p.sizes.now × (slot < p.sizes.now.slots) × (all_words p.sizes.now ≤ p.words.now.table_id.words)

  -- the seat is at the table, and acts for a participant that has taken this slot of the place
  abbrev pub FitsTaken : ℕ → Type 0
  FitsTaken slot = (seat.table_id ≡ p.words.now.table_id) × (0 < p.words.now.table_id.words) × (seat.me.0.kind ≡ of_participant) × (seat.me.0.sizes ≡ p.sizes.now) × IsSized p.sizes.now × (seat.me.0.slot ≡ slot) × (slot < 2 ^ 30)

module _ (table seat : TableId) (d : Acting) where
  -- the seat is at the table of a place of this many slots, and acts for the participant of this number
  abbrev pub ActsAmong : ℕ → ℕ → Type 0
  ActsAmong slots number = (seat ≡ table) × (d.sizes.slots ≡ slots) × (slots ≤ 2 ^ 30) × (d.number ≡ number) × (number < 2 ^ 30)
