-- what scans, and the settling of what a participant retired, leave with the seat that made them
use Rattle.std.specs.Prelude.{◌≡◌, ◌≢◌, ◌⊎◌, ℕ, ◌<◌, Bool, IsTrue, List}
use Rattle.atomic_table.specs.Table.{Me}
use Rattle.atomic_table.specs.declared.shared.Seat.{Seat}
use Rattle.sdd_steps.specs.State.{Has}
use Rattle.sdd_homes.specs.declared.Garbage.{Garbage}
use Rattle.domain_table.specs.Ledgers.{WaitsIn}
use Rattle.domain_table.specs.Plays.{Scans, Steady, SteadyButWaits, with_looks}
use Rattle.domain_table.specs.declared.bags.Bags.{Bags}
use Rattle.domain_table.specs.declared.board.Acting.{Acting}

module _ {S : Type 0} where
  -- the scan has the scan lock, whether or not it has found the count to be the published one
  abbrev pub ScansUnderLock : Seat S Acting → ℕ → ℕ → Type 0
  ScansUnderLock s p e = Scans s p e 1 ⊎ Scans s p e 2

  -- a step of the scan leaves it at this stage
  abbrev pub ScansOn : Seat S Acting → Seat S Acting → ℕ → ℕ → ℕ → Type 0
  ScansOn s s' p e stage = (s'.table_id ≡ s.table_id) × (s'.id ≡ s.id) × Steady s.me s'.me × Scans s' p e stage

  -- and may have taken over what others left
  abbrev pub ScansOnButWaits : Seat S Acting → Seat S Acting → ℕ → ℕ → ℕ → Type 0
  ScansOnButWaits s s' p e stage = (s'.table_id ≡ s.table_id) × (s'.id ≡ s.id) × SteadyButWaits s.me s'.me × Scans s' p e stage

  -- p may have looked at q: it has, if q is another one and `done` is true
  abbrev pub LooksAt : ℕ → ℕ → Bool → Me S Acting → Me S Acting → Type 0
  LooksAt p q done m m' = (ls : List ℕ) × (m' ≡ with_looks ls m) × (IsTrue done → q ≢ p → Has ls q) × ((r : ℕ) → Has m.0.known.looked r → Has ls r)

  -- p may have looked at others: it has at all below n, if `done` is true
  abbrev pub LooksAtAll : ℕ → ℕ → Bool → Me S Acting → Me S Acting → Type 0
  LooksAtAll p n done m m' = (ls : List ℕ) × (m' ≡ with_looks ls m) × (IsTrue done → (q : ℕ) → q < n → q ≢ p → Has ls q)

  -- this count is the one found, and the bags have what waits, in slots below n
  abbrev pub Settles : ℕ → ℕ → Bags → Me S Acting → Me S Acting → Type 0
  Settles n e b m m' = (ls : List ℕ) × (ws : List Garbage) × WaitsIn n ws b × (m' ≡ (record m.0 { known = record m.0.known { found = e; looked = ls }; waits = ws }, m.1))
