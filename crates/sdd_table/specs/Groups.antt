-- groups of owners, as clauses see them: each is owned as often as its count says, and its row names what it owns
use Rattle.std.specs.Prelude.{◌≡◌, ◌≢◌, ◌<◌, ◌+◌, ◌-◌, ℕ, zero, suc, List, [], ◌∷◌, ◌++◌, cond, get_or, leb, length, set, sum_by}
use Rattle.sdd_table.specs.declared.groups.Group.{Group}
use Rattle.sdd_table.specs.declared.groups.GroupName.{GroupName}

-- a group: how often it is owned, and the slots of the items whose owners its row keeps; 0 where its name is free
pub record GroupState : Type 0 where
  pub count : ℕ
  pub row : List ℕ

abbrev pub no_group : GroupState
no_group = record { count = 0; row = [] }

-- the name that an owner of a group has
abbrev pub name_of : Group → ℕ
name_of group = group.name

-- the group that a name is of
abbrev pub group_named : GroupName → ℕ
group_named name = name.number

abbrev pub group_at : List GroupState → ℕ → GroupState
group_at gs g = get_or gs g no_group

abbrev pub count_at : List GroupState → ℕ → ℕ
count_at gs g = (group_at gs g).count

abbrev pub row_at : List GroupState → ℕ → List ℕ
row_at gs g = (group_at gs g).row

-- group g has an owner
abbrev pub IsOut : List GroupState → ℕ → Type 0
IsOut gs g = 0 < count_at gs g

abbrev pub NoneOut : List GroupState → Type 0
NoneOut gs = (g : ℕ) → count_at gs g ≡ 0

-- the name g is free
abbrev pub IsFreeName : List GroupState → ℕ → Type 0
IsFreeName gs g = (g < length gs) × (count_at gs g ≡ 0)

abbrev pub NoNameFree : List GroupState → Type 0
NoNameFree gs = (g : ℕ) → g < length gs → count_at gs g ≢ 0

-- 1 for a free name
abbrev pub none_or_one : ℕ → ℕ
none_or_one zero = 1
none_or_one (suc n) = 0

abbrev pub is_vacant : GroupState → ℕ
is_vacant g = none_or_one g.count

-- how many names are free
abbrev pub free_names : List GroupState → ℕ
free_names gs = sum_by is_vacant gs

-- each group that is out stays out, with its row
abbrev pub GroupsGrow : (gs hs : List GroupState) → Type 0
GroupsGrow gs hs = (g : ℕ) → IsOut gs g → IsOut hs g × (row_at hs g ≡ row_at gs g)

-- each group that is out was out before, with the same row
abbrev pub GroupsShrink : (gs hs : List GroupState) → Type 0
GroupsShrink gs hs = GroupsGrow hs gs

-- a group that is out before and afterwards keeps its row
abbrev pub SameRows : (gs hs : List GroupState) → Type 0
SameRows gs hs = (g : ℕ) → IsOut gs g → IsOut hs g → row_at hs g ≡ row_at gs g

-- group g has this count, and no other group has changed
abbrev pub with_count : ℕ → ℕ → List GroupState → List GroupState
with_count g n gs = set gs g (record { count = n; row = row_at gs g })

-- group g, of one owner, has this row
abbrev pub with_row : ℕ → List ℕ → List GroupState → List GroupState
with_row g row gs = set gs g (record { count = 1; row = row })

-- the name g is free, and no other group has changed
abbrev pub without : ℕ → List GroupState → List GroupState
without g gs = set gs g no_group

-- group g has an owner more
abbrev pub more_owned : ℕ → List GroupState → List GroupState
more_owned g gs = with_count g (count_at gs g + 1) gs

-- group g has an owner less, and ends with its last
abbrev pub less_owned : ℕ → List GroupState → List GroupState
less_owned g gs = cond (leb (count_at gs g) 1) (without g gs) (with_count g (count_at gs g - 1) gs)

-- what group g gives up with an owner: its row, with the last one
abbrev pub row_ended : ℕ → List GroupState → List ℕ
row_ended g gs = cond (leb (count_at gs g) 1) (row_at gs g) []

-- a row, where the group has an owner
abbrev pub row_if : ℕ → List ℕ → List ℕ
row_if zero row = []
row_if (suc n) row = row

-- what all rows name
abbrev pub rows_of : List GroupState → List ℕ
rows_of [] = []
rows_of (g ∷ gs) = row_if g.count g.row ++ rows_of gs
