-- The pairs that a cursor is yet to give, where it moves in one direction only.
use Rattle.std.specs.Prelude.{◌≡◌, ℕ, zero, suc, ◌+◌, cond, List, [], ◌∷◌, Option, Some, None, drop, slice_get}
use Rattle.std.specs.BTreeMap.Range.{entries_between, is_from_start, is_past_end}
use Rattle.std.specs.declared.cmp.Ordering.{Ordering}
use Rattle.std.specs.declared.ops.Bound.{Bound}
use Rattle.leaf_array.specs.Pairs.{IsAscending}
use Rattle.tree_index.specs.Cursor.{Cursor, before_start, up_to_end}
use Rattle.tree_index.specs.declared.cursor.End.{End}
use Rattle.tree_index.specs.declared.cursor.End.TheVariants.{Unopened, At, Done}
use Rattle.serial_history.specs.declared.query.Part.{Part}
use Rattle.serial_history.specs.declared.query.Part.TheVariants as parts

module _ {X : Type 0} where
  abbrev pub onto : Option X → List X → List X
  onto None xs = []
  onto (Some x) xs = x ∷ xs

  -- the items before a place, the last one first
  abbrev pub falling : ℕ → List X → List X
  falling zero xs = []
  falling (suc n) xs = onto (slice_get xs n) (falling n xs)

-- a cursor moves in one direction only, for a part of its pairs
abbrev pub IsAlone : {K V : Type 0} → Part → Cursor K V → Type 0
IsAlone (parts.Last most) c = c.forward ≡ Unopened
IsAlone part c = c.backward ≡ Unopened

module _ {K V : Type 0} (cmp : K → K → Ordering) where
  -- the pairs within the bounds of a cursor
  abbrev pub pairs_within : Cursor K V → List (K × V)
  pairs_within c = entries_between cmp c.lower c.upper c.pairs

  -- the pairs at the front that lie within an upper bound
  abbrev pub run_within : Bound K → List (K × V) → List (K × V)
  run_within upper [] = []
  run_within upper (p ∷ ps) = cond (is_past_end cmp upper p.0) [] (p ∷ run_within upper ps)

  -- the pairs behind a forward end: all within the lower bound, before it is opened
  abbrev pub behind_end : Bound K → List (K × V) → End ℕ → List (K × V)
  behind_end lower pairs Unopened = drop (before_start cmp lower pairs) pairs
  behind_end lower pairs (At p) = drop (p + 1) pairs
  behind_end lower pairs Done = []

  abbrev pub remaining_pairs : Cursor K V → List (K × V)
  remaining_pairs c = run_within c.upper (behind_end c.lower c.pairs c.forward)

  -- the pairs at the front that lie within a lower bound
  abbrev pub run_above : Bound K → List (K × V) → List (K × V)
  run_above lower [] = []
  run_above lower (p ∷ ps) = cond (is_from_start cmp lower p.0) (p ∷ run_above lower ps) []

  -- the pairs before a backward end, the last one first: all within the upper bound, before it is opened
  abbrev pub before_end : Bound K → List (K × V) → End ℕ → List (K × V)
  before_end upper pairs Unopened = falling (up_to_end cmp upper pairs) pairs
  before_end upper pairs (At p) = falling p pairs
  before_end upper pairs Done = []

  abbrev pub remaining_back : Cursor K V → List (K × V)
  remaining_back c = run_above c.lower (before_end c.upper c.pairs c.backward)

  -- the pairs that it is yet to give, for a part of them: the last one first where the last ones are meant
  abbrev pub remaining_of : Part → Cursor K V → List (K × V)
  remaining_of (parts.Last most) c = remaining_back c
  remaining_of part c = remaining_pairs c

  -- a cursor that hasn't been asked, over rising keys
  pub record IsStart (c : Cursor K V) : Type 0 where
    pub rising : IsAscending cmp c.pairs
    pub forward : c.forward ≡ Unopened
    pub backward : c.backward ≡ Unopened
