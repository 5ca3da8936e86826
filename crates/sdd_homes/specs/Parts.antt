-- what is true of parts, homes and leases
use Rattle.std.specs.Prelude.{◌≡◌, ◌≢◌, ℕ, suc, ◌+◌, ◌^◌, ◌<◌, ◌≤◌, List}
use Rattle.sdd_steps.specs.declared.item.Item.{Item}
use Rattle.sdd_steps.specs.State.{At, Has}
use Rattle.sdd_homes.specs.declared.Lease.{Lease}
use Rattle.sdd_homes.specs.declared.Filling.{Filling}
use Rattle.sdd_homes.specs.declared.Owner.{Owner}
use Rattle.sdd_homes.specs.Book.{Content, blank, deed, part, Stage, vacant, partly, full, Book, home, resting, total, Lends, Apart}

-- The item i is in slot k. Homes that aren't leased have the parts of their participants. These, and one part of each owner, wherever that is, are all the parts that there are.
pub record Full (n slots : ℕ) (items : List Item) (slot_of : ℕ → ℕ) (share : ℕ → ℕ) (out : ℕ → List Lease) (what : ℕ → Content) (held : List Owner) (k i : ℕ) : Type 0 where
  pub it : Item
  pub here : At items i it
  pub slot : slot_of i ≡ k
  pub sum : total n share + it.owners ≡ 2 ^ 63
  pub homes : (p : ℕ) → p < n → ¬ Lends (out p) k → what (home slots k p) ≡ part it.value (share p)
  pub deeds : what (home slots k n) ≡ deed it.value held

-- The slot k is being filled or emptied: homes below a number have their parts, the others are empty, and all else is in hand.
pub record Partly (n slots : ℕ) (share : ℕ → ℕ) (what : ℕ → Content) (k : ℕ) (f : Filling) : Type 0 where
  pub within : f.filled ≤ n
  pub sum : total f.filled share + f.left ≡ 2 ^ 63
  pub filled : (p : ℕ) → p < f.filled → what (home slots k p) ≡ part f.round (share p)
  pub rest : (p : ℕ) → f.filled ≤ p → p < n → p ≢ f.out → what (home slots k p) ≡ blank

-- The participant p has a lease: all its parts of an item that it has a reason to lease.
pub record Leased (n slots : ℕ) (items : List Item) (reason : ℕ → ℕ → Type 0) (stage : ℕ → Stage) (share : ℕ → ℕ → ℕ) (p : ℕ) (l : Lease) : Type 0 where
  pub low : p < n
  pub inside : l.slot < slots
  pub is : stage l.slot ≡ full l.item
  pub count : share l.slot p ≡ l.count
  pub why : reason p l.item
  pub round : (it : Item) → At items l.item it → it.value ≡ l.round

-- The counting of parts, for n participants. `reason p i`: p has loaded i under its open guard, or has an owner of it in hand.
pub record Parts (n slots : ℕ) (items : List Item) (reason : ℕ → ℕ → Type 0) (book : Book) : Type 0 where
  pub full_at : (k i : ℕ) → k < slots → book.stage k ≡ full i → Full n slots items book.slot_of (book.share k) book.out book.what (book.held k) k i
  pub partly_at : (k : ℕ) (f : Filling) → k < slots → book.stage k ≡ partly f → Partly n slots (book.share k) book.what k f
  pub vacant_at : (k p : ℕ) → k < slots → book.stage k ≡ vacant → p < suc n → book.what (home slots k p) ≡ resting n p
  pub leases : (p : ℕ) (l : Lease) → Has (book.out p) l → Leased n slots items reason book.stage book.share p l
  pub once : (p : ℕ) → Apart (book.out p)
