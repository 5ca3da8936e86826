-- what lies in a slot of the table, by its content
use Rattle.std.specs.Prelude.{◌≡◌, Bool, true, false, ℕ, ◌<◌, ◌++◌, List, map, length, replicate, cond, nat_lt, IsSome, IsSomeAnd, Option}
use Rattle.std.specs.Mem.{manually_drop_value}
use Rattle.core.specs.declared.mem.manually_drop.ManuallyDrop.{ManuallyDrop}
use Rattle.parted.specs.declared.part.Part as parted
use Rattle.sdd_plain.specs.declared.sizes.Sizes.{Sizes}
use Rattle.sdd_steps.specs.State.{At}
use Rattle.sdd_homes.specs.declared.Garbage.{Garbage}
use Rattle.sdd_homes.specs.declared.Owner.{Owner}
use Rattle.sdd_homes.specs.Book.{Content, away, blank, room, deed, part}
use Rattle.domain_table.specs.Owners.{told}
use Rattle.domain_table.specs.Layout.{all_homes, own_homes, all_spares}
use Rattle.domain_table.specs.declared.board.Home.{Home}
use Rattle.domain_table.specs.declared.board.Home.TheVariants.{Blank, Room, Deed, Part, Announced}

-- the slots of these items, in their order
abbrev pub garbage_slots : List Garbage → List ℕ
garbage_slots = map (λ (w : Garbage). w.slot)

-- what lies in the home i of a place where all slots are free: the room for an item if it is the home of a deed, as those from `deeds` on are, and else nothing
abbrev pub first_in_home : ℕ → ℕ → Content
first_in_home deeds i = cond (nat_lt i deeds) blank room

-- an item is read by its parts, and returned by its deed, which has the owners that it holds: `holds` says which these are, by its value
module _ {T : Type 0} (holds : T → List (ℕ × ℕ)) where
  abbrev pub IsIn : Content → Home T → Type 0
  IsIn away y = Unit {0}
  IsIn blank y = y ≡ Blank
  IsIn room y = (b : _) × (y ≡ Room b)
  IsIn (deed r hs) y = (d : _) × (y ≡ Deed d) × (d.life ≡ r) × IsSomeAnd d.value (λ m. holds (manually_drop_value m) ≡ map told hs)
  IsIn (part r c) y = (p : _) × (y ≡ Part p c) × (p.life.id ≡ r) × (p.life.count ≡ c) × (0 < c) × IsSome p.seen.value

  -- whatever deed lies in this home is of this life, and its item holds the owners that the deed has
  abbrev pub IsDeedOf : Home T → ℕ → Option (ManuallyDrop T) → Type 0
  IsDeedOf y life item = (r : ℕ) (hs : List Owner) → IsIn (deed r hs) y → (life ≡ r) × IsSomeAnd item (λ m. holds (manually_drop_value m) ≡ map told hs)

  -- these are the homes of free slots, where those from `deeds` on are of deeds
  abbrev pub AreResting : ℕ → List (Home T) → Type 0
  AreResting deeds homes = (i : ℕ) (y : Home T) → At homes i y → IsIn (first_in_home deeds i) y

  -- the slots of a new place: the homes of free slots, and spare ones with nothing in them
  abbrev pub AreNewHomes : Sizes → List (Home T) → Type 0
  AreNewHomes sizes homes = (own : List (Home T)) × (length own ≡ all_homes sizes) × AreResting (own_homes sizes) own × (homes ≡ own ++ replicate (all_spares sizes) Blank)

module _ {T : Type 0} where
  -- these parts lie there, this many of them
  abbrev pub AreIn : parted.Part (Option (ManuallyDrop T)) → ℕ → Home T → Type 0
  AreIn p c y = y ≡ Part p c

  -- whatever parts lie there are these, this many of them
  abbrev pub ArePartsOf : (T → List (ℕ × ℕ)) → Home T → parted.Part (Option (ManuallyDrop T)) → ℕ → Type 0
  ArePartsOf holds y p n = (r c : ℕ) → IsIn holds (part r c) y → (p.life.id ≡ r) × (p.life.count ≡ c) × (n ≡ c) × (0 < c) × IsSome p.seen.value × AreIn p c y

  -- whether it is empty
  abbrev pub is_blank : Home T → Bool
  is_blank Blank = true
  is_blank (Room b) = false
  is_blank (Deed d) = false
  is_blank (Part p c) = false
  is_blank (Announced z) = false

  -- these slots, each with nothing in it
  abbrev pub blanks : List ℕ → List (ℕ × Home T)
  blanks = map (λ (k : ℕ). (k, Blank))

  -- the value is none of a slot, and announces how large the place is
  abbrev pub Announces : Home T → Sizes → Type 0
  Announces y z = y ≡ Announced z
