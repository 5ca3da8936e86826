-- How large a store may be made.
use Rattle.std.specs.Prelude.{ℕ, ◌+◌, ◌*◌, ◌/◌, ◌≤◌, ◌<◌, ◌^◌}

-- the places for readers, the slots, and the most pairs in a segment, s
pub record IsStoreSized (readers slots s : ℕ) : Type 0 where
  pub readers_fit : readers < 2 ^ 30
  pub some_slot : 1 ≤ slots
  pub slots_fit : slots ≤ 2 ^ 30
  pub some_pair : 1 ≤ s
  pub segment_fits : s ≤ 225

-- how many segments a list of n pairs has at most
abbrev pub segments_for : ℕ → ℕ → ℕ
segments_for s n = 2 * (n / (s + 1)) + 1

-- how many slots the version of a list of n pairs takes at most: one for each segment, and one for its directory
abbrev pub room_for : ℕ → ℕ → ℕ
room_for s n = 2 * (n / (s + 1)) + 2
