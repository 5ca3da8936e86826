-- what private collectors show to clauses
use Rattle.std.specs.Prelude.{◌≡◌, ℕ, ◌+◌, ◌<◌, ◌≤◌, Bool, cond, List, ◌∷◌, [], ◌++◌, map}
use Rattle.atomic_table.specs.Seated.{TableId}
use Rattle.atomic_table.specs.Table.{Me}
use Rattle.sdd_plain.specs.declared.sizes.Sizes.{Sizes}
use Rattle.sdd_steps.specs.State.{Has}
use Rattle.sdd_homes.specs.declared.Garbage.{Garbage}
use Rattle.sdd_homes.specs.declared.Lease.{Lease}
use Rattle.sdd_homes.specs.declared.Owner.{Owner}
use Rattle.domain_table.specs.Leases.{AreAt}
use Rattle.domain_table.specs.Owners.{told}
use Rattle.domain_table.specs.declared.board.Acting.{Acting}
use Rattle.domain_garbage.specs.Bag.{garbage_told, bag_in, NoneDue}
use Rattle.sdd_domain.specs.declared.private_collector.PrivateCollector.{PrivateCollector}
use Rattle.sdd_domain.specs.declared.shared.Shared.{Shared}
use Rattle.sdd_domain.specs.Tokens.{born_of}
use Rattle.sdd_domain.specs.declared.local.Local.{Local}

-- the place of a collector, with its sizes
abbrev pub collects_in : PrivateCollector → TableId × Sizes
collects_in c = (c.calm.badge.table_id, c.sizes)

-- what is in it, by the slot and the note, what came last in front
abbrev pub held_in : PrivateCollector → List (ℕ × ℕ)
held_in c = map garbage_told (bag_in c.calm.badge.views)

-- the slot of an owner's item
abbrev pub slot_in : {T : Type 0} → Shared T → ℕ
slot_in s = s.slot

-- at this count, what was noted three or more below is taken out, from the oldest on; the oldest of the others wasn't noted so
abbrev pub IsSwept : ℕ → List (ℕ × ℕ) → List (ℕ × ℕ) → Type 0
IsSwept count old kept = (gone : List (ℕ × ℕ)) × (old ≡ kept ++ gone) × ((t : ℕ × ℕ) → Has gone t → t.1 + 3 ≤ count) × ((ts : List (ℕ × ℕ)) (t : ℕ × ℕ) → kept ≡ ts ++ t ∷ [] → count < t.1 + 3)

-- the same of the items themselves
abbrev pub IsSweptOf : ℕ → List Garbage → List Garbage → Type 0
IsSweptOf count old kept = (gone : List Garbage) × (old ≡ kept ++ gone) × ((w : Garbage) → Has gone w → w.age + 3 ≤ count) × NoneDue count kept

-- What is due by a count was taken out of the bag, and this item was put in if it had lost its last owner. The count was read under the open guard.
abbrev pub HasCollected : {T : Type 0} → List (ℕ × ℕ) → ℕ → Bool → List (ℕ × ℕ) → Local T → Type 0
HasCollected old slot last new local = (count : ℕ) × (kept : List (ℕ × ℕ)) × IsSwept count old kept × (new ≡ cond last ((slot, count) ∷ kept) kept) × (born_of local ≤ count) × (count ≤ born_of local + 1)

-- the owners that an item holds, which are first in hand, are released under open guards
abbrev pub GivesUpUnder : {T S : Type 0} → (T → List (ℕ × ℕ)) → T → Me S Acting → Me S Acting → Type 0
GivesUpUnder holds item m m' = (hs os : List Owner) → holds item ≡ map told hs → m.0.hand ≡ hs ++ os → (ws : List Garbage) × (ls : List Lease) × AreAt m.0.leases ls × (m' ≡ (record m.0 { hand = os; leases = ls; waits = ws }, m.1))
