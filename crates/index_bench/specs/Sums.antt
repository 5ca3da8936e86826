-- What the tasks of a benchmark answer.
use Rattle.std.specs.Prelude.{ℕ, ◌+◌, ◌%◌, ◌^◌, List, [], ◌∷◌}
use Rattle.std.specs.Option.{unwrap_or}
use Rattle.std.specs.Ordering.{nat_cmp}
use Rattle.tree_index.specs.Pairs.{value_of_key}

-- the sum of the values that a list of pairs has at some keys, and a number, without carry
abbrev pub sum_found : List (ℕ × ℕ) → List ℕ → ℕ → ℕ
sum_found pairs [] sum = sum
sum_found pairs (key ∷ keys) sum = sum_found pairs keys ((sum + unwrap_or (value_of_key nat_cmp key pairs) 0) % 2 ^ 64)
