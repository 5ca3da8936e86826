-- What look-ups answer, and what they are asked, by references.
use Rattle.std.specs.Prelude.{◌≡◌, ℕ, Bool, List, Option, Some, None, MatchOption}
use Rattle.std.specs.Borrow.{Bor}
use Rattle.std.specs.declared.ops.Bound.{Bound}
use Rattle.std.specs.Range.Bound.{bound_map}
use Rattle.std.specs.declared.cmp.Ordering.{Ordering}
use Rattle.std.specs.BTreeMap.{is_at}
use Rattle.std.specs.BTreeMap.Range.{range_contains}
use Rattle.std.specs.Map.{lookup}
use Rattle.std.specs.Option.{is_some}
use Rattle.leaf_slots.specs.Labels.{lesser}

-- the answer lends this pair; where it lends none, this is the other one
abbrev pub LendsPairOr : {K V : Type 0} → Option (K × V) → Option (Bor K × Bor V) → Option (K × V) → Type 0
LendsPairOr other answer pair = MatchOption answer (pair ≡ other) (λ e. pair ≡ Some (e.0.now, e.1.now))

-- the answer lends this pair, if there is one
abbrev pub LendsPair : {K V : Type 0} → Option (Bor K × Bor V) → Option (K × V) → Type 0
LendsPair answer pair = LendsPairOr None answer pair

-- the answer lends the value of this pair, if there is one
abbrev pub LendsValue : {K V : Type 0} → Option (Bor V) → Option (K × V) → Type 0
LendsValue {K} answer pair = MatchOption answer (pair ≡ None) (λ v. (k : K) × (pair ≡ Some (k, v.now)))

-- as many of the pairs as this have lesser keys than this one, and whether one of them has it
abbrev pub IsSoughtAt : {K V : Type 0} → (K → K → Ordering) → K → List (K × V) → Bool → ℕ → Type 0
IsSoughtAt cmp key pairs has at = (at ≡ lesser cmp key pairs) × (is_some (lookup (is_at (cmp key)) pairs) ≡ has)

-- the bound behind a reference
abbrev pub deref_bound : {K : Type 0} → Bound (Bor K) → Bound K
deref_bound bound = bound_map (λ k. k.now) bound

-- whether a key lies within the bounds behind two references
abbrev pub is_within : {K : Type 0} → (K → K → Ordering) → Bound (Bor K) → Bound (Bor K) → K → Bool
is_within cmp lower upper key = range_contains cmp (deref_bound lower) (deref_bound upper) key
