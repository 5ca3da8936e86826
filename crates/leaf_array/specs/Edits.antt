-- The list that each write of a list of pairs leaves.
use Rattle.std.specs.Prelude.{◌≡◌, cond, false, not, List, ◌∷◌, ◌++◌}
use Rattle.std.specs.declared.cmp.Ordering.{Ordering}
use Rattle.std.specs.BTreeMap.{insert_entry, is_at}
use Rattle.std.specs.Ordering.{is_lt, is_gt}
use Rattle.std.specs.List.{filter}
use Rattle.std.specs.Map.{remove_entry}
use Rattle.leaf_array.specs.Pairs.{has_key, IsAscending}

module _ {K V : Type 0} (cmp : K → K → Ordering) where
  -- the pairs with a key below this one, and those with a key above it
  abbrev pub below : K → List (K × V) → List (K × V)
  below key pairs = filter (λ p. is_gt (cmp key p.0)) pairs

  abbrev pub above : K → List (K × V) → List (K × V)
  above key pairs = filter (λ p. is_lt (cmp key p.0)) pairs

  -- an upsert: the pair at its place, instead of any pair with its key
  abbrev pub upserted : K → V → List (K × V) → List (K × V)
  upserted key value pairs = below key pairs ++ (key, value) ∷ above key pairs

  -- an insert: the same where no pair has the key; else the list stays
  abbrev pub inserted : K → V → List (K × V) → List (K × V)
  inserted key value pairs = cond (has_key cmp key pairs) pairs (upserted key value pairs)

  -- a removal: no pair with the key
  abbrev pub removed : K → List (K × V) → List (K × V)
  removed key pairs = filter (λ p. not (is_at (cmp key) p.0)) pairs

-- an entry put into an ascending list that doesn't have its key, in the words of std's maps, is an insert
abbrev pub EnteringIsInserting : {K : Type 0} → (V : Type 0) → (K → K → Ordering) → Type 0
EnteringIsInserting {K} V cmp = (key : K) (val : V) (ps : List (K × V)) → IsAscending cmp ps → has_key cmp key ps ≡ false → insert_entry cmp ps key val ≡ inserted cmp key val ps

-- one put in the place of any with its key is an upsert
abbrev pub ExchangingIsUpserting : {K : Type 0} → (V : Type 0) → (K → K → Ordering) → Type 0
ExchangingIsUpserting {K} V cmp = (key : K) (value : V) (pairs : List (K × V)) → IsAscending cmp pairs → insert_entry cmp (remove_entry (is_at (cmp key)) pairs) key value ≡ upserted cmp key value pairs
