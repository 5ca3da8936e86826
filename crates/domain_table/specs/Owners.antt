-- one owner, or none, as cells and hands show it
use Rattle.std.specs.Prelude.{ℕ, suc, List, [], ◌∷◌, Option, None, Some}
use Rattle.sdd_homes.specs.declared.Owner.{Owner}
use Rattle.domain_table.specs.declared.board.Acting.{Acting}
use Rattle.sdd_homes.specs.Book.{Content, blank, part}

-- an owner as the slot and the round of its item
abbrev pub told : Owner → ℕ × ℕ
told o = (o.slot, o.round)

-- its item, if there is one
abbrev pub item_of : Option Owner → Option ℕ
item_of None = None
item_of (Some o) = Some o.item

-- its code in the word of a cell
abbrev pub slot_code : Option Owner → ℕ
slot_code None = 0
slot_code (Some o) = suc o.slot

-- what lies in its spare slot: its one part
abbrev pub part_of : Option Owner → Content
part_of None = blank
part_of (Some o) = part o.round 1

-- a hand that has it, if there is one, besides others
abbrev pub besides : Option Owner → List Owner → List Owner
besides None os = os
besides (Some o) os = o ∷ os

-- the item of the first owner that a seat holds
abbrev pub item_first : List Owner → ℕ
item_first [] = 0
item_first (o ∷ os) = o.item

abbrev pub item_in : List Acting → ℕ
item_in [] = 0
item_in (d ∷ ds) = item_first d.hand
