-- one more owner, one owner fewer, and new items, in the counting of parts
use Rattle.std.proofs.Common.{◌≡◌, ◌≢◌, ℕ, ◌+◌, ◌-◌, ◌<◌, refl, ◌∙◌, arith, List, [], ◌∷◌, ◌++◌, set}
use Rattle.sdd_steps.specs.declared.item.Item.{Item}
use Rattle.sdd_steps.specs.State.{At, times}
use Rattle.sdd_steps.specs.Steps.{paid, new_item}
use Rattle.sdd_steps.proofs.ListLemmas.{put, set_here, set_else, at_longer}
use Rattle.sdd_steps.proofs.CountLemmas.{paid_at}
use Rattle.sdd_homes.specs.Book.{full, Book, Lends, recounted}
use Rattle.sdd_homes.specs.Parts.{Parts}
use Rattle.sdd_homes.proofs.PartLemmas.{Alike, recounts}

others : (items : List Item) (i : ℕ) (it' : Item) (j : ℕ) → j ≢ i → Alike items (set items i it') j
others items i it' j ne it at = (it, set_else items i j it' ne ∙ at, refl, refl)

abbrev pub raised : Item → Item
raised it = record it { hand = it.hand + 1; owners = it.owners + 1 }

module _ {n slots : ℕ} {items : List Item} {reason : ℕ → ℕ → Type 0} {book : Book} (r : Parts n slots items reason book) (p k i : ℕ) (it : Item) (low : p < n) (inside : k < slots) (is : book.stage k ≡ full i) (has : Lends (book.out p) k) (at : At items i it) where
  abbrev pub Counts : Item → ℕ → Type 0
  Counts it' c = Parts n slots (set items i it') reason (record book { share = put book.share k (put (book.share k) p c); out = put book.out p (recounted k c (book.out p)) })

  -- so many parts stay the participant's own
  pub counts : (it' : Item) (c : ℕ) → it'.value ≡ it.value → c + it'.owners ≡ book.share k p + it.owners → Counts it' c
  counts it' c value sum = recounts r p k i c (set items i it') it it' low inside is has at (set_here items i it' it at) value sum (others items i it')

  -- one of the participant's own parts goes with the new owner
  pub clones : 0 < book.share k p → Counts (raised it) (book.share k p - 1)
  clones some_left = counts (raised it) (book.share k p - 1) refl (omega arith)

-- old items keep value and owners at a placing
pub alike_placed : (v : ℕ) (hs : List ℕ) (items : List Item) (i : ℕ) → Alike items (paid hs items ++ new_item v hs ∷ []) i
alike_placed v hs items i it at = (record it { hand = it.hand - times i hs }, at_longer (paid hs items) (new_item v hs ∷ []) i (record it { hand = it.hand - times i hs }) (paid_at hs items i it at), refl, refl)
