-- Answers to queries of a list of pairs.
use Rattle.std.specs.Prelude.{◌-◌, List, length, slice_get, take, Option, Some, None}
use Rattle.std.specs.Borrow.{Bor}
use Rattle.std.specs.BTreeMap.{is_at}
use Rattle.std.specs.BTreeMap.Range.{entries_between}
use Rattle.std.specs.Map.{lookup_entry}
use Rattle.std.specs.declared.cmp.Ordering.{Ordering}
use Rattle.leaf_array.specs.Edits.{above, below}
use Rattle.leaf_array.specs.Pairs.{has_key, value_of_key}
use Rattle.serial_history.specs.Parts.{last_items}
use Rattle.serial_history.specs.declared.query.Query.{Query}
use Rattle.serial_history.specs.declared.query.Query.TheVariants as queries
use Rattle.serial_history.specs.declared.query.Answer.{Answer}
use Rattle.serial_history.specs.declared.query.Answer.TheVariants as answers
use Rattle.serial_history.specs.declared.query.Near.{Near}
use Rattle.serial_history.specs.declared.query.Near.TheVariants as nears

module _ {K V : Type 0} where
  -- the pair with the key, if there is one; else the nearest smaller and larger ones, as far as there are any
  abbrev pub near_by : Option (K × V) → Option (K × V) → Option (K × V) → Near K V
  near_by (Some e) smaller larger = nears.Exact e.0 e.1
  near_by None (Some s) (Some l) = nears.Between s.0 s.1 l.0 l.1
  near_by None (Some s) None = nears.Smaller s.0 s.1
  near_by None None (Some l) = nears.Larger l.0 l.1
  near_by None None None = nears.Empty

  abbrev pub last_pair : List (K × V) → Option (K × V)
  last_pair pairs = slice_get pairs (length pairs - 1)

  -- what borrowed keys and values are
  abbrev pub behind : Near (Bor K) (Bor V) → Near K V
  behind (nears.Exact k v) = nears.Exact k.now v.now
  behind (nears.Between k v l w) = nears.Between k.now v.now l.now w.now
  behind (nears.Smaller k v) = nears.Smaller k.now v.now
  behind (nears.Larger k v) = nears.Larger k.now v.now
  behind nears.Empty = nears.Empty

module _ {K V : Type 0} (cmp : K → K → Ordering) where
  -- the pair at a key, or those around it
  abbrev pub near : K → List (K × V) → Near K V
  near key pairs = near_by (lookup_entry (is_at (cmp key)) pairs) (last_pair (below cmp key pairs)) (slice_get (above cmp key pairs) 0)

  -- the answer to a query
  abbrev pub answer_to : Query K → List (K × V) → Answer K V
  answer_to (queries.Get key) pairs = answers.Get (value_of_key cmp key pairs)
  answer_to (queries.Contains key) pairs = answers.Contains (has_key cmp key pairs)
  answer_to (queries.Range lower upper) pairs = answers.Range (entries_between cmp lower upper pairs)
  answer_to (queries.Locate key) pairs = answers.Locate (near key pairs)
  answer_to (queries.First lower upper count) pairs = answers.Range (take count (entries_between cmp lower upper pairs))
  answer_to (queries.Last lower upper count) pairs = answers.Range (last_items count (entries_between cmp lower upper pairs))
