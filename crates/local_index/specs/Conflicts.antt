-- When reads are a conflict.
use Rattle.std.specs.Prelude.{◌≡◌, ◌≢◌, ◌≤◌, ◌∷◌, ◌++◌, [], ℕ, List, Some, length, true}
use Rattle.std.specs.BTreeMap.Range.{entries_between, range_contains}
use Rattle.std.specs.List.{All}
use Rattle.std.specs.declared.cmp.Ordering.{Ordering}
use Rattle.std.specs.declared.ops.Bound.{Bound}
use Rattle.leaf_array.specs.Pairs.{has_key}
use Rattle.version_views.specs.Writes.{after_writes}
use Rattle.version_views.specs.declared.write.Write.{Write}
use Rattle.version_views.specs.declared.write.Write.TheVariants as writes
use Rattle.serial_history.specs.Answers.{answer_to}
use Rattle.serial_history.specs.Serial.{Holds, Read}
use Rattle.local_index.specs.State.{State, MayRefuse, present}
use Rattle.serial_history.specs.declared.commit.Cause.TheVariants as causes
use Rattle.serial_history.specs.declared.query.Answer.TheVariants as answers
use Rattle.serial_history.specs.declared.query.Query.TheVariants as queries

module _ {K : Type 0} (V : Type 0) (cmp : K → K → Ordering) where
  -- a value that is written again is read again, whatever was written before
  abbrev pub WrittenBackHolds : Type 0
  WrittenBackHolds = (before : List (Write K V)) (pairs : List (K × V)) (key : K) (value : V) → Holds cmp (after_writes cmp (before ++ writes.Upsert key value ∷ []) pairs) (queries.Get key, answers.Get (Some value))

  -- no commit is refused for reads that hold
  abbrev pub HeldIsNoConflict : Type 0
  HeldIsNoConflict = (width : ℕ) (s : State K V) (reads : List (Read K V)) (writes : List (Write K V)) (place : ℕ) → All (Holds cmp (present cmp s)) reads → MayRefuse cmp width s reads writes (causes.Conflict place) → ⊥

  -- the range of a list that has a key in it isn't that of one that hasn't the key
  abbrev pub ChangedRangeDiffers : Type 0
  ChangedRangeDiffers = (lower upper : Bound K) (key : K) (old new : List (K × V)) → range_contains cmp lower upper key ≡ true → has_key cmp key old ≢ has_key cmp key new → Holds cmp new (queries.Range lower upper, answer_to cmp (queries.Range lower upper) old) → ⊥

  -- the first pairs of a range are the same in lists that begin alike, as many as lie in that beginning
  abbrev pub FirstPairsHold : Type 0
  FirstPairsHold = (lower upper : Bound K) (count : ℕ) (front old new : List (K × V)) → count ≤ length (entries_between cmp lower upper front) → Holds cmp (front ++ new) (queries.First lower upper count, answer_to cmp (queries.First lower upper count) (front ++ old))

  -- the last ones are the same in lists that end alike
  abbrev pub LastPairsHold : Type 0
  LastPairsHold = (lower upper : Bound K) (count : ℕ) (old new back : List (K × V)) → count ≤ length (entries_between cmp lower upper back) → Holds cmp (new ++ back) (queries.Last lower upper count, answer_to cmp (queries.Last lower upper count) (old ++ back))
