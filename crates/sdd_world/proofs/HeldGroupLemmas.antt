-- groups whose owners an item holds: they are out while it is there, and what their rows name has owners
use Rattle.std.proofs.Common.{◌≡◌, ℕ, ◌≤◌, Some, List, length, get_or}
use Rattle.std.specs.List.{All}
use Rattle.sdd_table.specs.Groups.{IsOut, SameRows, row_at}
use Rattle.sdd_table.specs.Holding.{Hold, OwnerGroup}
use Rattle.sdd_table.specs.Place.{IsShared}
use Rattle.sdd_table.specs.State.{State, value_at}
use Rattle.sdd_table.proofs.ListLemmas.{named_times}
use Rattle.sdd_world.specs.Counting.{Counted, tally}
use Rattle.sdd_world.proofs.CountLemmas.{owners_are_counted}

module _ {T : Type 0} (holds : T → List Hold) (hand : List Hold) (w : State T) (counted : Counted holds hand w) (j : ℕ) (v : T) (is : value_at w j ≡ Some v) (g : ℕ) (held : 1 ≤ tally (OwnerGroup g) (holds v)) where
  pub held_out : IsOut w.groups g
  held_out = (owners_are_counted holds).group_in_item g j v hand w is held counted

  -- each item that its row names has owners
  pub row_shared : All (λ i. IsShared w i) (row_at w.groups g)
  row_shared k d inside =
      let row = row_at w.groups g in
      (owners_are_counted holds).in_row (get_or row k d) g hand w held_out (named_times row k d inside) counted

  -- while the item stays, the row does
  pub row_stays : (hand' : List Hold) (w' : State T) → Counted holds hand' w' → value_at w' j ≡ Some v → SameRows w.groups w'.groups → row_at w'.groups g ≡ row_at w.groups g
  row_stays hand' w' counted' is' same = same g held_out ((owners_are_counted holds).group_in_item g j v hand' w' is' held counted')
