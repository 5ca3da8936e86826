-- Parts of a list: how many items they may have, and the order in which a cursor gives them.
use Rattle.std.specs.Prelude.{ℕ, ◌-◌, Bool, true, false, nat_lt, List, length, take, drop, reverse}
use Rattle.serial_history.specs.declared.query.Part.{Part}
use Rattle.serial_history.specs.declared.query.Part.TheVariants as parts

abbrev pub last_items : {X : Type 0} → ℕ → List X → List X
last_items most xs = drop (length xs - most) xs

abbrev pub part_of : {X : Type 0} → Part → List X → List X
part_of parts.All xs = xs
part_of (parts.First most) xs = take most xs
part_of (parts.Last most) xs = last_items most xs

-- a part may have another item beside this many
abbrev pub has_room : Part → ℕ → Bool
has_room parts.All count = true
has_room (parts.First most) count = nat_lt count most
has_room (parts.Last most) count = nat_lt count most

-- this many items are more than a part may have
abbrev pub is_over : Part → ℕ → Bool
is_over parts.All count = false
is_over (parts.First most) count = nat_lt most count
is_over (parts.Last most) count = nat_lt most count

-- the last item is given first where the last ones are meant
abbrev pub turned : {X : Type 0} → Part → List X → List X
turned (parts.Last most) xs = reverse xs
turned part xs = xs

-- the position of the item with this number then, among this many
abbrev pub place_of : Part → ℕ → ℕ → ℕ
place_of (parts.Last most) number count = count - 1 - number
place_of part number count = number
