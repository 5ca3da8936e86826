-- how the fields of groups show them, and what is always true of them
use Rattle.std.specs.Prelude.{◌≡◌, ℕ, ◌≤◌, List, [], length, map, vec_capacity}
use Rattle.sdd_table.specs.Groups.{GroupState, count_at, is_vacant, row_at}
use Rattle.sdd_table.specs.Names.{Lists}
use Rattle.sdd_table.specs.Tokens.{kept_slot}
use Rattle.sdd_table.specs.declared.groups.Entry.{Entry}
use Rattle.sdd_table.specs.declared.groups.Groups.TheInside.{Inside}

-- an entry, with the slots of the items whose owners its row keeps
abbrev pub group_of : Entry → GroupState
group_of e = record { count = e.count; row = map kept_slot e.row.items }

abbrev pub groups_of : Inside → List GroupState
groups_of a = map group_of a.entries.items

-- the stack names those that are free, each once, and has room for all; a free one has no row
pub record IsArena (a : Inside) : Type 0 where
  pub names : Lists is_vacant (groups_of a) a.free.items
  pub room : length a.entries.items ≤ vec_capacity a.free
  pub empty : (g : ℕ) → count_at (groups_of a) g ≡ 0 → row_at (groups_of a) g ≡ []
