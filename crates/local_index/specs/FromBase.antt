-- Why an index doesn't begin with a list.
use Rattle.std.specs.Prelude.{ℕ, ◌+◌, ◌<◌, List, length, take}
use Rattle.std.specs.declared.cmp.Ordering.{Ordering}
use Rattle.leaf_array.specs.Pairs.{IsAscending}
use Rattle.version_views.specs.Sizes.{room_for}
use Rattle.local_index.specs.declared.index.from_base.BaseCause.{BaseCause}
use Rattle.local_index.specs.declared.index.from_base.BaseCause.TheVariants as causes

module _ {K V : Type 0} (cmp : K → K → Ordering) where
  -- the keys ascend up to this place, and the key at this place isn't above the one before it
  pub record RisesUpto (pairs : List (K × V)) (place : ℕ) : Type 0 where
    pub behind_one : 0 < place
    pub within : place < length pairs
    pub rising : IsAscending cmp (take place pairs)
    pub broken : IsAscending cmp (take (place + 1) pairs) → ⊥

  -- why no index with this many slots, and with at most s pairs in a segment, begins with a list
  abbrev pub MayRefuseBase : ℕ → ℕ → List (K × V) → BaseCause → Type 0
  MayRefuseBase s slots pairs (causes.NotAscending place) = RisesUpto pairs place
  MayRefuseBase s slots pairs causes.Memory = IsAscending cmp pairs
  MayRefuseBase s slots pairs causes.NoSlot = IsAscending cmp pairs × (slots < room_for s (length pairs))
