-- The word of an array: the rank of each slot in four bits, and two flags. And where a full array is best split.
use Rattle.std.specs.Prelude.{ℕ, zero, suc, ◌+◌, ◌*◌, ◌/◌, ◌^◌, ◌==◌, ◌&&◌, Bool, false, cond, nat_lt, List, [], ◌∷◌, length}
use Rattle.leaf_array.specs.Cells.{Cells, slot_of, rank_in}

-- the ranks of n slots from this one on, the first one lowest
abbrev pub ranks_from : ℕ → ℕ → List (ℕ × ℕ) → ℕ
ranks_from slot zero ls = 0
ranks_from slot (suc n) ls = rank_in slot ls + 16 * ranks_from (slot + 1) n ls

-- the ranks of the reachable slots among those of n bitmap places from this one on, in their order
unfoldable pub ranks_in_order : ℕ → ℕ → List (ℕ × ℕ) → List ℕ
ranks_in_order place zero ls = []
ranks_in_order place (suc n) ls =
    cond (nat_lt 0 (rank_in (slot_of place) ls)) (rank_in (slot_of place) ls ∷ ranks_in_order (place + 1) n ls) (ranks_in_order (place + 1) n ls)

-- how many numbers are greater than the one before them, where 0 before the first is none
abbrev pub rises : ℕ → List ℕ → ℕ
rises before [] = 0
rises before (n ∷ ns) = cond (nat_lt 0 before && nat_lt before n) 1 0 + rises n ns

module _ {K V : Type 0} where
  abbrev pub word : Cells K V → ℕ
  word a = ranks_from 0 15 a.labels + cond a.retired (2 ^ 62) 0 + cond a.frozen (2 ^ 63) 0

  -- 1, and 2 for each rise of rank from one reachable slot to the next
  abbrev pub score : Cells K V → ℕ
  score a = 1 + 2 * rises 0 (ranks_in_order 0 15 a.labels)

  -- where to split, how many pairs can be reached, and whether they came in order
  abbrev pub boundary : Cells K V → ℕ × ℕ × Bool
  boundary a =
      cond
      (nat_lt 11 (length a.pairs))
      (cond (nat_lt (score a) (length a.pairs)) ((score a + 1) / 2) (score a / 2), length a.pairs, score a == 29)
      (15, length a.pairs, false)
