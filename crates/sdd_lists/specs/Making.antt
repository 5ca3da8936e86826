-- entries that were made
use Rattle.std.specs.Prelude.{◌≡◌, ℕ}
use Rattle.sdd_world.specs.State.{State, IsFree, IsFreeCell}
use Rattle.sdd_world.specs.declared.tag.Tag.TheVariants as tag
use Rattle.sdd_lists.specs.Chain.{Entry, IsDetached}
use Rattle.sdd_lists.specs.Entries.{entry_value, entry_link}
use Rattle.sdd_lists.specs.declared.linked_entry.LinkedEntry.{LinkedEntry}

-- a clear entry of a value, made of a slot and a cell that were free
pub record IsNew {T : Type 0} (w : State (LinkedEntry T)) (value : T) (e : Entry (LinkedEntry T)) : Type 0 where
  pub value_of : entry_value e.item ≡ value
  pub clear : e.tag ≡ tag.None
  pub slot : IsFree w e.slot
  pub link : IsFreeCell w e.link

-- the item in slot i is such an entry, in no list
pub record IsMade {T : Type 0} (w w' : State (LinkedEntry T)) (value : T) (i : ℕ) : Type 0 where
  pub entry : Entry (LinkedEntry T)
  pub at : i ≡ entry.slot
  pub new : IsNew w value entry
  pub loose : IsDetached entry_link w' entry
