-- Lists of pairs of a key and a value, strictly ascending by key, and what is read of them.
use Rattle.std.specs.Prelude.{Bool, Option, List}
use Rattle.std.specs.declared.cmp.Ordering.{Ordering}
use Rattle.std.specs.BTreeMap.{is_at}
use Rattle.std.specs.List.{list_any}
use Rattle.std.specs.List.Sorted.{IsStrictlySortedBy}
use Rattle.std.specs.Map.{keys_of, lookup, lookup_entry}

module _ {K V : Type 0} (cmp : K → K → Ordering) where
  -- each key is below those after it
  abbrev pub IsAscending : List (K × V) → Type 0
  IsAscending pairs = IsStrictlySortedBy cmp (keys_of pairs)

  -- whether some pair has the key
  abbrev pub has_key : K → List (K × V) → Bool
  has_key key pairs = list_any (λ p. is_at (cmp key) p.0) pairs

  -- the pair with the key
  abbrev pub pair_of_key : K → List (K × V) → Option (K × V)
  pair_of_key key pairs = lookup_entry (is_at (cmp key)) pairs

  -- the value of the pair with the key
  abbrev pub value_of_key : K → List (K × V) → Option V
  value_of_key key pairs = lookup (is_at (cmp key)) pairs
