-- what was loaded under a guard
use Rattle.std.specs.Prelude.{◌≡◌, ℕ, List, [], Option, None, Some}
use Rattle.std.specs.Mem.{manually_drop_value}
use Rattle.std.specs.declared.mem.ManuallyDrop.{ManuallyDrop}
use Rattle.std.specs.Option.{option_map}
use Rattle.parted.specs.declared.raw.Seen.{Seen}
use Rattle.sdd_domain.specs.Tokens.{nest_of}
use Rattle.sdd_domain.specs.declared.guard.Guard.{Guard}
use Rattle.sdd_domain.specs.declared.pointer.Loaded.{Loaded}
use Rattle.shared_versions.specs.Sight.{Sight}
use Rattle.shared_versions.specs.declared.node.Node.{Node}
use Rattle.shared_versions.specs.Nodes.{version_of}

abbrev pub item_seen : {T : Type 0} → Option (Seen (Option (ManuallyDrop T))) → Option T
item_seen None = None
item_seen (Some s) = option_map manually_drop_value s.value

-- the item that a cell was found to name
abbrev pub loaded_item : {T : Type 0} → Loaded T → Option T
loaded_item l = item_seen l.seen

module _ {K V : Type 0} where
  abbrev pub version_in : Option (Node K V) → Option (Sight K V)
  version_in None = None
  version_in (Some n) = version_of n

  -- the version that was loaded
  abbrev pub loaded_version : Loaded (Node K V) → Option (Sight K V)
  loaded_version l = version_in (loaded_item l)

  -- its segments have at most this many pairs, by its type
  abbrev pub HasWidth : ℕ → Option (Sight K V) → Type 0
  HasWidth s None = ⊥
  HasWidth s (Some v) = v.width ≡ s

  -- the pairs of its segments
  abbrev pub blocks_in : Option (Sight K V) → List (List (K × V))
  blocks_in None = []
  blocks_in (Some v) = v.blocks

-- what is seen of a session: the nest of its guard, and what was loaded under it
pub record Reading (K V : Type 0) : Type 0 where
  pub nest : ℕ × ℕ
  pub version : Option (Sight K V)

abbrev pub reading_of : {K V : Type 0} → Guard → Loaded (Node K V) → Reading K V
reading_of guard root = record { nest = nest_of guard; version = loaded_version root }
