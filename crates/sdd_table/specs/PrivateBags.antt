-- a private bag as its first and its last place, and the list that those are the ends of
use Rattle.std.specs.Prelude.{◌≡◌, ℕ, ◌<◌, ◌-◌, List, length, get_or}
use Rattle.sdd_table.specs.declared.private_bag.PrivateBag.TheInside.{Inside}

-- the places that wait, in the order in which they came, and for how many there is room
pub record Waiting : Type 0 where
  pub items : List ℕ
  pub room : ℕ

abbrev pub waiting_of : Inside → Waiting
waiting_of w = record { items = w.listed.items; room = w.room }

pub record HasEnds (w : Inside) : Type 0 where
  pub count : w.count ≡ length w.listed.items
  pub first : 0 < w.count → w.first ≡ get_or w.listed.items 0 0
  pub last : 0 < w.count → w.last ≡ get_or w.listed.items (w.count - 1) 0
