-- what items hold
use Rattle.std.specs.Prelude.{ℕ, List, [], map, reverse}
use Rattle.std.specs.Arc.{arc_value}
use Rattle.std.specs.Global.{Vec}
use Rattle.std.specs.List.{flat_map}
use Rattle.std.specs.declared.sync.Arc.{Arc}
use Rattle.sdd_table.specs.Groups.{GroupState, name_of, row_at}
use Rattle.sdd_table.specs.Holding.{Hold, OwnerGroup}
use Rattle.sdd_table.specs.declared.groups.Group.{Group}
use Rattle.sdd_table.specs.declared.owner.Kept.{Kept}
use Rattle.version_views.specs.declared.directory.Directory.{Directory}
use Rattle.version_views.specs.declared.item.Item.{Item}
use Rattle.version_views.specs.declared.item.Item.TheVariants as items
use Rattle.version_views.specs.declared.row.Row.{Row}

-- what is in a vector that several share
abbrev pub shared_items : {X Z : Type 0} → Arc (Vec X) Z → List X
shared_items v = (arc_value v).items

-- the greatest keys of a row's segments but the last
abbrev pub row_keys : {K R : Type 0} → Row K R → List K
row_keys r = shared_items r.separators

-- the owners of its segments, where this is how rows own them
abbrev pub row_owners : {K R O : Type 0} → (R → List O) → Row K R → List O
row_owners owners = λ r. owners r.segments

-- those of a directory, in order
abbrev pub segment_owners : {K R O : Type 0} → (R → List O) → Directory K R → List O
segment_owners owners d = flat_map (row_owners owners) d.rows.items

-- in a place of one thread: the slots that the row of a group names, and their owners
abbrev pub slots_in : List GroupState → Group → List ℕ
slots_in gs g = row_at gs (name_of g)

abbrev pub keeping : ℕ → Kept
keeping i = record { slot = i }

abbrev pub owners_of : List GroupState → Group → List Kept
owners_of gs g = map keeping (slots_in gs g)

-- the slots of a directory's segments
abbrev pub slots_of : {K : Type 0} → List GroupState → Directory K Group → List ℕ
slots_of gs d = segment_owners (slots_in gs) d

-- the names of the groups of rows
abbrev pub names_of : {K : Type 0} → List (Row K Group) → List ℕ
names_of rows = map (λ r. name_of r.segments) rows

-- a directory gives its rows up from the last one on
abbrev pub held_by : {K V : Type 0} {s : ℕ} → Item K V s → List Hold
held_by (items.Directory d) = reverse (map OwnerGroup (names_of d.rows.items))
held_by (items.Segment t) = []
