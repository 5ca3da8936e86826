-- the book of a shared place: where parts are said to be
use Rattle.std.specs.Prelude.{◌≡◌, ◌⊎◌, ◌==◌, ℕ, zero, suc, ◌+◌, ◌*◌, cond, List, [], ◌∷◌}
use Rattle.sdd_homes.specs.declared.Lease.{Lease}
use Rattle.sdd_homes.specs.declared.Filling.{Filling}
use Rattle.sdd_homes.specs.declared.Owner.{Owner}
use Rattle.sdd_homes.specs.declared.Garbage.{Garbage}

-- What lies in a slot of the table: nothing is known of it (it is out), an empty value, the room for an item, the deed of a round, with the owners that its item holds, or a number of parts of a round
pub data Content : Type 0 where
  away : Content
  blank : Content
  room : Content
  deed : ℕ → List Owner → Content
  part : ℕ → ℕ → Content

-- What a slot for items is: free, being filled or emptied, or with the item i in it
pub data Stage : Type 0 where
  vacant : Stage
  partly : Filling → Stage
  full : ℕ → Stage

-- Of each slot its stage, and how many parts each participant has of it; of each item its slot, and of each slot the owners that its item holds; of each participant its leases, and the items that it left when it ended, the newest in front. What lies in the homes.
-- Of each cell and each participant the spare slot that is its own, of each spare slot whose it is, and what lies in it.
pub record Book : Type 0 where
  pub stage : ℕ → Stage
  pub share : ℕ → ℕ → ℕ
  pub slot_of : ℕ → ℕ
  pub held : ℕ → List Owner
  pub out : ℕ → List Lease
  pub left : ℕ → List Garbage
  pub what : ℕ → Content
  pub spare : ℕ → ℕ
  pub user : ℕ → ℕ
  pub extra : ℕ → Content

-- The home of participant p for slot k, among m slots: the homes of each participant lie together. Behind them lie those of the deeds, as if these were one participant more.
abbrev pub home : ℕ → ℕ → ℕ → ℕ
home m k p = p * m + k

-- what lies in the home p of a free slot: the room for an item in the home of the deed, and nothing in the others
abbrev pub resting : ℕ → ℕ → Content
resting n p = cond (p == n) room blank

-- f over all numbers below n
abbrev pub total : ℕ → (ℕ → ℕ) → ℕ
total zero f = 0
total (suc n) f = f n + total n f

abbrev pub lease : ℕ → ℕ → ℕ → ℕ → Lease
lease k i c r = record { slot = k; item = i; count = c; round = r }

-- a lease of slot k is among these
abbrev pub Lends : List Lease → ℕ → Type 0
Lends [] k = ⊥
Lends (l ∷ ls) k = (l.slot ≡ k) ⊎ Lends ls k

-- no two of these are of one slot
abbrev pub Apart : List Lease → Type 0
Apart [] = Unit {0}
Apart (l ∷ ls) = ¬ Lends ls l.slot × Apart ls

-- the lease of slot k has another count
abbrev pub recounted : ℕ → ℕ → List Lease → List Lease
recounted k c [] = []
recounted k c (l ∷ ls) = record l { count = cond (l.slot == k) c l.count } ∷ recounted k c ls
