-- private bags
use Rattle.std.specs.Prelude.{◌≡◌, ℕ, ◌+◌, ◌<◌, ◌≤◌, List, [], ◌∷◌, ◌++◌, map, length}
use Rattle.atomic_table.specs.Table.{Me}
use Rattle.sdd_steps.specs.State.{Has}
use Rattle.sdd_homes.specs.declared.Garbage.{Garbage}
use Rattle.sdd_homes.specs.declared.Lease.{Lease}
use Rattle.sdd_homes.specs.declared.Owner.{Owner}
use Rattle.domain_table.specs.Bags.{IsBag}
use Rattle.domain_table.specs.Chains.{AllBelow}
use Rattle.domain_table.specs.Leases.{AreAt}
use Rattle.domain_table.specs.declared.board.Acting.{Acting}
use Rattle.domain_garbage.specs.declared.private.NotedChain.{NotedChain}

-- an item in one, as its slot and its note
abbrev pub garbage_told : Garbage → ℕ × ℕ
garbage_told w = (w.slot, w.age)

-- these items are in the bag: they are its chain, and have these notes
pub record IsKept (n : ℕ) (ws : List Garbage) (k : NotedChain) : Type 0 where
  pub chain : IsBag ws k.chain
  pub notes : k.notes ≡ map (λ (w : Garbage). w.age) ws
  pub below : AllBelow n ws

-- all that was in the private bag is retired, besides what waited
abbrev pub HandsAll : {S : Type 0} → Me S Acting → Me S Acting → Type 0
HandsAll m m' = (ws : List Garbage) × (length ws ≡ length m.0.waits + length m.0.collected) × (m' ≡ (record m.0 { collected = []; waits = ws }, m.1))

-- what has been in the bag the longest was noted less than three below the count
abbrev pub NoneDue : ℕ → List Garbage → Type 0
NoneDue count ws = (vs : List Garbage) (w : Garbage) → ws ≡ vs ++ w ∷ [] → count < w.age + 3

-- what has been in the bag the longest is in slot k and is due at this count, and the bag has the others
abbrev pub HasDueNote : ℕ → ℕ → ℕ → List Garbage → NotedChain → Type 0
HasDueNote n count k all kept = (ws : List Garbage) × (w : Garbage) × (all ≡ ws ++ w ∷ []) × (w.slot ≡ k) × (w.age + 3 ≤ count) × IsKept n ws kept

-- what has just come into the bag is in slot k with this note, which is the greatest, and the bag has the others, of which none is due
abbrev pub HasCome : ℕ → ℕ → ℕ → List Garbage → NotedChain → Type 0
HasCome n k note all kept = (w : Garbage) × (ws : List Garbage) × (all ≡ w ∷ ws) × (w.slot ≡ k) × (w.age ≡ note) × IsKept n ws kept × (length ws < n) × ((v : Garbage) → Has ws v → v.age ≤ note) × NoneDue note ws

-- the bag has all, with their notes, and they may be linked otherwise
abbrev pub KeepsNotes : {S : Type 0} → ℕ → NotedChain → Me S Acting → Me S Acting → Type 0
KeepsNotes n kept m m' = (cs : List Garbage) × IsKept n cs kept × (map garbage_told cs ≡ map garbage_told m.0.collected) × (m' ≡ (record m.0 { collected = cs }, m.1))

-- the private bag of the first view
abbrev pub bag_in : List Acting → List Garbage
bag_in [] = []
bag_in (d ∷ ds) = d.collected

-- the first owner in hand is released; with the last one of its item that waits
abbrev pub GivesBack : {S : Type 0} → Me S Acting → Me S Acting → Type 0
GivesBack m m' = (o : Owner) (os : List Owner) → m.0.hand ≡ o ∷ os → (ws : List Garbage) × (ls : List Lease) × AreAt m.0.leases ls × (m' ≡ (record m.0 { hand = os; leases = ls; waits = ws }, m.1))

-- or it is in the private bag
abbrev pub PutsIn : {S : Type 0} → Me S Acting → Me S Acting → Type 0
PutsIn m m' = (o : Owner) (os : List Owner) → m.0.hand ≡ o ∷ os → (cs : List Garbage) × (ls : List Lease) × AreAt m.0.leases ls × (m' ≡ (record m.0 { hand = os; leases = ls; collected = cs }, m.1))
