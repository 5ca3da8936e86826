-- what an item holds, by the numbers of slots, cells and groups
use Rattle.std.specs.Prelude.{ℕ}

pub data Hold : Type 0 where
  OwnedItem : ℕ → Hold
  SharedItem : ℕ → Hold
  OwnedIn : ℕ → Hold
  SharedIn : ℕ → Hold
  OwnerGroup : ℕ → Hold
