-- Ranges of a list of pairs that are gone.
use Rattle.std.specs.Prelude.{◌≡◌, ◌||◌, ◌≤◌, ◌<◌, not, Bool, true, false, ℕ, List, [], ◌∷◌, Option, Some, None, slice_get}
use Rattle.std.specs.BTreeMap.Range.{range_contains}
use Rattle.std.specs.List.{filter}
use Rattle.std.specs.declared.cmp.Ordering.{Ordering}
use Rattle.std.specs.declared.cmp.Ordering.TheVariants.{Less}
use Rattle.std.specs.declared.ops.Bound.{Bound}
use Rattle.std.specs.declared.ops.Bound.TheVariants.{Included, Excluded, Unbounded}
use Rattle.tree_index.specs.Shape.{AllKeys}
use Rattle.version_drafts.specs.declared.gone.Gone.{Gone}

-- the key lies in one of these ranges
abbrev pub is_gone : {K : Type 0} → (K → K → Ordering) → List (Gone K) → K → Bool
is_gone cmp [] key = false
is_gone cmp (g ∷ gs) key = range_contains cmp g.lower g.upper key || is_gone cmp gs key

-- the pairs that lie in none of them
abbrev pub without_gone : {K V : Type 0} → (K → K → Ordering) → List (Gone K) → List (K × V) → List (K × V)
without_gone cmp gone pairs = filter (λ p. not (is_gone cmp gone p.0)) pairs

-- the first pair, if there is one, isn't gone
abbrev pub FirstIsLeft : {K V : Type 0} → (K → K → Ordering) → List (Gone K) → List (K × V) → Type 0
FirstIsLeft cmp gone [] = Unit {0}
FirstIsLeft cmp gone (p ∷ ps) = is_gone cmp gone p.0 ≡ false

-- a place among blocks, and that of an end of a range, if it has a bound there: at it or behind, behind, at it or before, before
abbrev pub IsFrom : Option ℕ → ℕ → Type 0
IsFrom None place = Unit {0}
IsFrom (Some from) place = from ≤ place

abbrev pub IsBehind : Option ℕ → ℕ → Type 0
IsBehind None place = Unit {0}
IsBehind (Some from) place = from < place

abbrev pub IsUpto : Option ℕ → ℕ → Type 0
IsUpto None place = Unit {0}
IsUpto (Some upto) place = place ≤ upto

abbrev pub IsBefore : Option ℕ → ℕ → Type 0
IsBefore None place = Unit {0}
IsBefore (Some upto) place = place < upto

module _ {K : Type 0} where
  -- the place is that of an end of the range, or lies between both; or only between
  abbrev pub IsNear : Gone K → ℕ → Type 0
  IsNear g place = IsFrom g.from place × IsUpto g.upto place

  abbrev pub IsCovered : Gone K → ℕ → Type 0
  IsCovered g place = IsBehind g.from place × IsBefore g.upto place

module _ {K V : Type 0} (cmp : K → K → Ordering) (blocks : List (List (K × V))) where
  -- blocks before a place have keys below this one, and those behind it have keys above
  pub record IsAmong (key : K) (place : ℕ) : Type 0 where
    pub before : (i : ℕ) (b : List (K × V)) → slice_get blocks i ≡ Some b → i < place → AllKeys (λ k. cmp k key ≡ Less) b
    pub behind : (i : ℕ) (b : List (K × V)) → slice_get blocks i ≡ Some b → place < i → AllKeys (λ k. cmp key k ≡ Less) b

  -- an end of a range lies in the block of a place or beside it, if there is a bound
  abbrev pub IsEndAt : Bound K → Option ℕ → Type 0
  IsEndAt (Included key) (Some place) = IsAmong key place
  IsEndAt (Excluded key) (Some place) = IsAmong key place
  IsEndAt Unbounded None = Unit {0}
  IsEndAt bound place = ⊥

  -- the range has no pair of blocks that aren't near, and all of those that are covered
  pub record IsSpan (g : Gone K) : Type 0 where
    pub apart : (i : ℕ) (b : List (K × V)) → slice_get blocks i ≡ Some b → (IsNear g i → ⊥) → AllKeys (λ k. range_contains cmp g.lower g.upper k ≡ false) b
    pub covered : (i : ℕ) (b : List (K × V)) → slice_get blocks i ≡ Some b → IsCovered g i → AllKeys (λ k. range_contains cmp g.lower g.upper k ≡ true) b
