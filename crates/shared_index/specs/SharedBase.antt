-- why an index that threads share doesn't begin with a list
use Rattle.std.specs.Prelude.{ℕ, ◌+◌, ◌<◌, List, length, take}
use Rattle.std.specs.declared.cmp.Ordering.{Ordering}
use Rattle.leaf_array.specs.Pairs.{IsAscending}
use Rattle.shared_index.specs.declared.book.from_base.SharedBaseCause.{SharedBaseCause}
use Rattle.shared_index.specs.declared.book.from_base.SharedBaseCause.TheVariants as causes

module _ {K V : Type 0} (cmp : K → K → Ordering) where
  -- the keys ascend up to this place, and the key at this place isn't above the one before it
  pub record RisesUpto (pairs : List (K × V)) (place : ℕ) : Type 0 where
    pub behind_one : 0 < place
    pub within : place < length pairs
    pub rising : IsAscending cmp (take place pairs)
    pub broken : IsAscending cmp (take (place + 1) pairs) → ⊥

  -- why no index begins with a list
  abbrev pub MayRefuseBase : List (K × V) → SharedBaseCause → Type 0
  MayRefuseBase pairs (causes.NotAscending place) = RisesUpto pairs place
  MayRefuseBase pairs causes.Memory = IsAscending cmp pairs
  MayRefuseBase pairs causes.NoSlot = IsAscending cmp pairs

-- what the misses are then: one more for want of a slot or a cell, else as many
abbrev pub misses_unbegun : SharedBaseCause → ℕ → ℕ
misses_unbegun (causes.NotAscending place) misses = misses
misses_unbegun causes.Memory misses = misses
misses_unbegun causes.NoSlot misses = misses + 1
