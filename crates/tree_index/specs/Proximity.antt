-- Where a key is in a list of pairs.
use Rattle.std.specs.Prelude.{◌≡◌, ◌<◌, ◌-◌, true, false, List, [], length}
use Rattle.std.specs.declared.cmp.Ordering.{Ordering}
use Rattle.leaf_array.specs.Cells.{lesser}
use Rattle.leaf_array.specs.Pairs.{has_key}
use Rattle.tree_index.specs.declared.cursor.End.TheVariants.{Unopened, At}
use Rattle.tree_index.specs.declared.proximity.Proximity.{Proximity}
use Rattle.tree_index.specs.declared.proximity.Proximity.TheVariants.{Exact, Between, Smaller, Larger, Empty}
use Rattle.tree_index.specs.Cursor.{whole}

-- at the pair that has the key, between its neighbours, behind all pairs, before them, or among none; a cursor is there
abbrev pub IsLocated : {K V : Type 0} → (K → K → Ordering) → K → List (K × V) → Proximity K V → Type 0
IsLocated cmp key pairs (Exact c) = (has_key cmp key pairs ≡ true) × (c ≡ whole pairs (At (lesser cmp key pairs)) Unopened)
IsLocated cmp key pairs (Between c) = (has_key cmp key pairs ≡ false) × (0 < lesser cmp key pairs) × (lesser cmp key pairs < length pairs) × (c ≡ whole pairs (At (lesser cmp key pairs - 1)) (At (lesser cmp key pairs)))
IsLocated cmp key pairs (Smaller c) = (0 < length pairs) × (lesser cmp key pairs ≡ length pairs) × (c ≡ whole pairs Unopened (At (length pairs - 1)))
IsLocated cmp key pairs (Larger c) = (has_key cmp key pairs ≡ false) × (lesser cmp key pairs ≡ 0) × (0 < length pairs) × (c ≡ whole pairs (At 0) Unopened)
IsLocated cmp key pairs Empty = pairs ≡ []
