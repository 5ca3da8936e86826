-- Where the pairs within a bound begin and end in a list.
use Rattle.std.specs.Prelude.{ℕ, suc, cond, List, [], ◌∷◌}
use Rattle.std.specs.declared.cmp.Ordering.{Ordering}
use Rattle.std.specs.declared.ops.Bound.{Bound}
use Rattle.std.specs.BTreeMap.Range.{is_from_start, is_past_end}

module _ {K V : Type 0} (cmp : K → K → Ordering) where
  -- how many pairs at the front lie before a lower bound
  abbrev pub before_start : Bound K → List (K × V) → ℕ
  before_start lower [] = 0
  before_start lower (p ∷ ps) = cond (is_from_start cmp lower p.0) 0 (suc (before_start lower ps))

  -- how many pairs at the front lie within an upper bound
  abbrev pub up_to_end : Bound K → List (K × V) → ℕ
  up_to_end upper [] = 0
  up_to_end upper (p ∷ ps) = cond (is_past_end cmp upper p.0) 0 (suc (up_to_end upper ps))
