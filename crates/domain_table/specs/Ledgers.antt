-- what waits in the bags of a participant, and the ledger of one that has just registered
use Rattle.std.specs.Prelude.{◌≡◌, true, ℕ, ◌≤◌, List, [], ◌∷◌, ◌++◌, length, Option}
use Rattle.atomic_table.specs.Table.{Me}
use Rattle.std.specs.VecDeque.{deque_capacity}
use Rattle.sdd_homes.specs.declared.Garbage.{Garbage}
use Rattle.domain_table.specs.Bags.{IsBag, aged, by_age}
use Rattle.domain_table.specs.Chains.{AllBelow}
use Rattle.domain_table.specs.Contents.{garbage_slots}
use Rattle.domain_table.specs.Leases.{all_below}
use Rattle.domain_table.specs.Plays.{taken_all}
use Rattle.domain_table.specs.declared.bags.Bags.{Bags}
use Rattle.domain_table.specs.declared.bags.Ends.{Ends}
use Rattle.domain_table.specs.declared.board.Acting.{Acting}
use Rattle.domain_table.specs.declared.ledger.Ledger.{Ledger}

-- this waits in slots below n, by the bags: it lies by age, and each bag has what is of its age
abbrev pub WaitsIn : ℕ → List Garbage → Bags → Type 0
WaitsIn n ws b = (by_age ws ≡ ws) × (all_below n (garbage_slots ws) ≡ true) × IsBag (aged 0 ws) b.current × IsBag (aged 1 ws) b.previous × IsBag (aged 2 ws) b.next × IsBag (aged 3 ws) b.due

-- what waits may be linked otherwise, and the bags have it
abbrev pub Rearranges : {S : Type 0} → ℕ → Me S Acting → Bags → Me S Acting → Type 0
Rearranges n m b m' = (ws : List Garbage) × (length ws ≡ length m.0.waits) × WaitsIn n ws b × (m' ≡ (record m.0 { waits = ws }, m.1))

-- the newest of these was just retired, in slot k, and the bags have the others
abbrev pub HasRetired : ℕ → ℕ → List Garbage → Bags → Type 0
HasRetired n k all b = (w : Garbage) × (ws : List Garbage) × (all ≡ w ∷ ws) × (w.slot ≡ k) × (w.age ≡ 0) × WaitsIn n ws b

-- the newest of these were just taken over, with this bag, and the bags have the others
abbrev pub HasTakenOver : ℕ → Option Ends → List Garbage → Bags → Type 0
HasTakenOver n bag all b = (ts : List Garbage) × (ws : List Garbage) × (all ≡ taken_all ts ws) × IsBag ts bag × AllBelow n ts × WaitsIn n ws b

-- the oldest of these is due, in slot k, and the bags have the others
abbrev pub HasDue : ℕ → ℕ → List Garbage → Bags → Type 0
HasDue n k all b = (vs : List Garbage) × (w : Garbage) × (all ≡ vs ++ w ∷ []) × (w.slot ≡ k) × (w.age ≡ 3) × WaitsIn n vs b

-- this bag has all that waits, in slots below n
abbrev pub WaitsInOne : {S : Type 0} → ℕ → Option Ends → Me S Acting → Me S Acting → Type 0
WaitsInOne n bag m m' = (ws : List Garbage) × IsBag ws bag × AllBelow n ws × (m' ≡ (record m.0 { waits = ws }, m.1))

-- what this bag has is retired now, with age 0, and this is left of it
abbrev pub TakesOver : {S : Type 0} → ℕ → Option Ends → ℕ → Me S Acting → Me S Acting → Type 0
TakesOver n bag own m m' = (ws : List Garbage) × IsBag ws bag × AllBelow n ws × (m' ≡ (record m.0 { waits = taken_all ws m.0.waits; left = own }, m.1))

-- nothing is leased, and there is room for this many leases
abbrev pub IsEmpty : {T : Type 0} → ℕ → Ledger T → Type 0
IsEmpty n l = (l.rows.items ≡ []) × (n ≤ deque_capacity l.rows)
