-- Slots and ranks of pairs by rising keys, and what is read of them.
use Rattle.std.specs.Prelude.{ℕ, zero, suc, ◌+◌, ◌-◌, ◌%◌, ◌==◌, ◌&&◌, not, cond, nat_lt, List, [], ◌∷◌, map, Option, Some, None}
use Rattle.std.specs.declared.cmp.Ordering.{Ordering}
use Rattle.std.specs.Ordering.{is_lt}
use Rattle.std.specs.Option.{option_or}

-- the slot of a bitmap place
abbrev pub slot_of : ℕ → ℕ
slot_of place = cond (nat_lt place 12) (place - place % 4 + (place + 1) % 4) place

-- the rank of a slot, 0 if it has none
abbrev pub rank_in : ℕ → List (ℕ × ℕ) → ℕ
rank_in slot [] = 0
rank_in slot (l ∷ ls) = cond (l.0 == slot) l.1 (rank_in slot ls)

-- the first label above a rank
abbrev pub first_above : ℕ → List (ℕ × ℕ) → Option (ℕ × ℕ)
first_above rank [] = None
first_above rank (l ∷ ls) = cond (nat_lt rank l.1) (Some l) (first_above rank ls)

-- the last label below a rank, or the last one of all if that is 0
abbrev pub last_below : ℕ → List (ℕ × ℕ) → Option (ℕ × ℕ)
last_below rank [] = None
last_below rank (l ∷ ls) = cond (nat_lt 0 rank && not (nat_lt l.1 rank)) None (option_or (last_below rank ls) (Some l))

-- the labels with a new slot behind n others: its rank is one above theirs, and the ranks behind it rise by one
abbrev pub entered : ℕ → ℕ → ℕ → List (ℕ × ℕ) → List (ℕ × ℕ)
entered low zero slot ls = (slot, low + 1) ∷ map (λ l. (l.0, l.1 + 1)) ls
entered low (suc n) slot [] = []
entered low (suc n) slot (l ∷ ls) = l ∷ entered l.1 n slot ls

-- the labels with another slot for the one behind n others: its rank stays
abbrev pub handed_on : ℕ → ℕ → List (ℕ × ℕ) → List (ℕ × ℕ)
handed_on n slot [] = []
handed_on zero slot (l ∷ ls) = (slot, l.1) ∷ ls
handed_on (suc n) slot (l ∷ ls) = l ∷ handed_on n slot ls

-- slot and pair behind n others
abbrev pub fallen : {K V : Type 0} → ℕ → List (ℕ × ℕ) → List (K × V) → List (ℕ × (K × V))
fallen n [] ps = []
fallen n (l ∷ ls) [] = []
fallen zero (l ∷ ls) (p ∷ ps) = (l.0, p) ∷ []
fallen (suc n) (l ∷ ls) (p ∷ ps) = fallen n ls ps

-- the key of what was removed or replaced last
abbrev pub newest : {K V : Type 0} → List (ℕ × (K × V)) → Option K
newest [] = None
newest (b ∷ bs) = Some b.1.0

module _ {K V : Type 0} (cmp : K → K → Ordering) (key : K) where
  -- how many pairs at the front have a lesser key
  abbrev pub lesser : List (K × V) → ℕ
  lesser [] = 0
  lesser (p ∷ ps) = cond (is_lt (cmp p.0 key)) (suc (lesser ps)) 0
