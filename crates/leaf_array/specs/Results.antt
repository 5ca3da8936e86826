-- What edits of an array answer.
use Rattle.std.specs.Prelude.{◌==◌, ◌||◌, ◌&&◌, not, Bool, true, false, Option, Some, None}
use Rattle.std.specs.declared.cmp.Ordering.{Ordering}
use Rattle.leaf_array.specs.declared.result.InsertResult.{InsertResult}
use Rattle.leaf_array.specs.declared.result.InsertResult.TheVariants.{Success, Duplicate, Full}
use Rattle.leaf_array.specs.declared.result.RemoveResult.{RemoveResult}
use Rattle.leaf_array.specs.declared.result.RemoveResult.TheVariants as removal
use Rattle.leaf_array.specs.Cells.{Cells, array_has_key}

module _ {K V : Type 0} where
  abbrev pub IsSuccess : InsertResult K V → Type 0
  IsSuccess Success = Unit {0}
  IsSuccess (Duplicate k v) = ⊥
  IsSuccess (Full k v) = ⊥

  abbrev pub IsDuplicate : InsertResult K V → Type 0
  IsDuplicate Success = ⊥
  IsDuplicate (Duplicate k v) = Unit {0}
  IsDuplicate (Full k v) = ⊥

  abbrev pub IsFull : InsertResult K V → Type 0
  IsFull Success = ⊥
  IsFull (Duplicate k v) = ⊥
  IsFull (Full k v) = Unit {0}

  -- the pair that a refusal gives back
  abbrev pub given_back : InsertResult K V → Option (K × V)
  given_back Success = None
  given_back (Duplicate k v) = Some (k, v)
  given_back (Full k v) = Some (k, v)

  -- an array that takes no pair at all
  abbrev pub is_closed : Cells K V → Bool
  is_closed a = a.frozen || a.retired

  -- an insertion that finds the key
  abbrev pub is_repeated : Bool → (K → K → Ordering) → K → Cells K V → Bool
  is_repeated upsert cmp key a = not (is_closed a) && not upsert && array_has_key cmp key a

  -- an insertion that finds no place
  abbrev pub is_refused : Bool → (K → K → Ordering) → K → Cells K V → Bool
  is_refused upsert cmp key a = is_closed a || a.used == 15 && (upsert || not (array_has_key cmp key a))

-- whether a pair was removed
abbrev pub is_removal : RemoveResult → Bool
is_removal removal.Success = true
is_removal removal.Retired = true
is_removal removal.Fail = false
is_removal removal.Frozen = false
