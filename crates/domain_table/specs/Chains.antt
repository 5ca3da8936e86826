-- what waits as a chain of link words, the newest in front
use Rattle.std.specs.Prelude.{◌==◌, ◌&&◌, Bool, true, ℕ, suc, ◌+◌, ◌*◌, ◌^◌, ◌<◌, List, [], ◌∷◌}
use Rattle.sdd_steps.specs.State.{Has}
use Rattle.sdd_homes.specs.declared.Garbage.{Garbage}

-- the slot of what waits the longest
abbrev pub oldest_slot : List Garbage → ℕ
oldest_slot [] = 0
oldest_slot (w ∷ []) = w.slot
oldest_slot (w ∷ v ∷ ws) = oldest_slot (v ∷ ws)

-- whether the link word of each but the newest names what came next
abbrev pub is_threaded : List Garbage → Bool
is_threaded [] = true
is_threaded (w ∷ []) = true
is_threaded (w ∷ v ∷ ws) = (v.next == suc w.slot) && is_threaded (v ∷ ws)

-- where a chain begins and ends, in one word: 0 if it is empty, else the slot of the newest in the lowest 31 binary digits, and one more than the slot of the oldest above them
abbrev pub left_code : List Garbage → ℕ
left_code [] = 0
left_code (w ∷ ws) = w.slot + 2 ^ 31 * suc (oldest_slot (w ∷ ws))

-- each is in a slot below n
abbrev pub AllBelow : ℕ → List Garbage → Type 0
AllBelow n ws = (w : Garbage) → Has ws w → w.slot < n
