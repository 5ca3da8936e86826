-- what words, slots and views show of items and cells
use Rattle.std.specs.Prelude.{◌≡◌, ◌≢◌, ℕ, suc, ◌+◌, ◌<◌, List, [], length, slice_index, Option, None, Some, ◌∷◌}
use mathlib.Core.Option as maybe
use Rattle.sdd_plain.specs.declared.sizes.Sizes.{Sizes}
use Rattle.sdd_steps.specs.declared.item.Item.{Item}
use Rattle.sdd_steps.specs.declared.item.Cell.{Cell}
use Rattle.sdd_steps.specs.declared.item.ItemState.{ItemState}
use Rattle.sdd_steps.specs.declared.item.ItemState.TheVariants.{Due, Retired, Collected, Waiting, Reclaimed}
use Rattle.sdd_steps.specs.State as steps
use Rattle.sdd_steps.specs.State.{At, Has}
use Rattle.sdd_steps.specs.Invariant.{names_of}
use Rattle.sdd_homes.specs.declared.Owner.{Owner}
use Rattle.sdd_homes.specs.declared.Filling.{Filling}
use Rattle.sdd_homes.specs.declared.Garbage.{Garbage}
use Rattle.sdd_homes.specs.Book.{Content, blank, vacant, partly, full, Book}
use Rattle.sdd_homes.specs.Parts.{Parts}
use Rattle.sdd_homes.specs.Spares.{Spares}
use Rattle.sdd_homes.specs.Reasons.{Why}
use Rattle.sdd_homes.specs.Lying.{Lying}
use Rattle.sdd_homes.specs.Hands.{items_of, owned}
use Rattle.domain_table.specs.Layout.{claim_word, cell_word, slot_word, link_word, Tells, all_words, all_homes, all_spares}
use Rattle.domain_table.specs.declared.board.Acting.{Acting}
use Rattle.domain_table.specs.Views.{of_participant}

abbrev pub owners_in_hand : Acting → List Owner
owners_in_hand d = d.hand

-- 0 where a cell names no item, else one more than the slot of its item
abbrev pub code : (ℕ → ℕ) → Option ℕ → ℕ
code slot_of None = 0
code slot_of (Some i) = suc (slot_of i)

-- the view acts for p, which gives an owner of i back, and has its home of i out for that
abbrev pub Grasps : Acting → ℕ → ℕ → Type 0
Grasps d p i = (d.kind ≡ of_participant) × (d.number ≡ p) × (d.releasing ≡ suc i) × Has (items_of d.hand) i

abbrev pub Grip : List Acting → ℕ → ℕ → Type 0
Grip views p i = (j : ℕ) × (d : Acting) × At views j d × Grasps d p i

-- an owner is of an item that is there, in this slot, of this round
abbrev pub Owns : List Item → (ℕ → ℕ) → Owner → Type 0
Owns items slot_of o = (it : Item) × At items o.item it × (it.value ≡ o.round) × (slot_of o.item ≡ o.slot)

-- these are the owners that an item holds
abbrev pub IsGiven : List Item → (ℕ → ℕ) → List Owner → Item → Type 0
IsGiven items slot_of hs it = (items_of hs ≡ it.holds) × ((o : Owner) → Has hs o → Owns items slot_of o)

-- the item w.item has this state, and is in the slot and of the round of w
abbrev pub HasState : List Item → (ℕ → ℕ) → ItemState → Garbage → Type 0
HasState items slot_of state w = (it : Item) × At items w.item it × (it.state ≡ state) × (it.value ≡ w.round) × (slot_of w.item ≡ w.slot)

-- p retired it, this many rotations ago
abbrev pub IsWaiting : List Item → (ℕ → ℕ) → ℕ → Garbage → Type 0
IsWaiting items slot_of p w = HasState items slot_of (Retired p w.age) w

-- who retired it has ended, and nobody has taken it over
abbrev pub IsLeftover : List Item → (ℕ → ℕ) → Garbage → Type 0
IsLeftover items slot_of w = HasState items slot_of Waiting w

-- it is in a private bag, with this count noted
abbrev pub IsNoted : List Item → (ℕ → ℕ) → Garbage → Type 0
IsNoted items slot_of w = HasState items slot_of (Collected w.age) w

-- the slot that the view's participant fills or empties, if it does
abbrev pub IsFilling : Sizes → Book → Acting → Type 0
IsFilling sizes book d = (f : Filling) → d.filling ≡ Some f → (d.slot < sizes.slots) × (f.by ≡ d.number) × (book.stage d.slot ≡ partly f)

-- no two of these are of one item
abbrev pub Distinct : List Garbage → Type 0
Distinct [] = Unit {0}
Distinct (w ∷ ws) = ((v : Garbage) → Has ws v → v.item ≢ w.item) × Distinct ws

-- what participants left: no item is in two bags, or in one twice
pub record Leftovers (items : List Item) (slot_of : ℕ → ℕ) (left : ℕ → List Garbage) : Type 0 where
  pub waits : (p : ℕ) (w : Garbage) → Has (left p) w → IsLeftover items slot_of w
  pub once : (p : ℕ) → Distinct (left p)
  pub apart : (p q : ℕ) (v w : Garbage) → Has (left p) v → Has (left q) w → v.item ≡ w.item → p ≡ q

-- what is in private bags, each at one seat: no item is in two of them, or in one twice
pub record Private (items : List Item) (slot_of : ℕ → ℕ) (views : List Acting) : Type 0 where
  pub noted : (j : ℕ) (d : Acting) (w : Garbage) → At views j d → Has d.collected w → IsNoted items slot_of w
  pub once : (j : ℕ) (d : Acting) → At views j d → Distinct d.collected
  pub apart : (j k : ℕ) (d e : Acting) (v w : Garbage) → At views j d → At views k e → Has d.collected v → Has e.collected w → v.item ≡ w.item → j ≡ k

-- the link word of what waits is what is known of it
abbrev pub IsLinked : Sizes → List ℕ → Garbage → Type 0
IsLinked sizes words w = w.next ≢ 0 → slice_index words (link_word sizes w.slot) ≡ w.next

-- so it is of all that is in a bag: of a participant, in a private bag, or left
pub record Links (sizes : Sizes) (words : List ℕ) (left : ℕ → List Garbage) (views : List Acting) : Type 0 where
  pub waits : (j : ℕ) (d : Acting) (w : Garbage) → At views j d → d.kind ≡ of_participant → Has d.waits w → IsLinked sizes words w
  pub notes : (j : ℕ) (d : Acting) (w : Garbage) → At views j d → Has d.collected w → IsLinked sizes words w
  pub lefts : (p : ℕ) (w : Garbage) → Has (left p) w → IsLinked sizes words w

-- nobody acts for p: none of its homes is out, its spare slot, which its claim word names, is empty
abbrev pub Rests : Sizes → Book → List ℕ → ℕ → Type 0
Rests sizes book words p = (book.out p ≡ []) × (slice_index words (claim_word p) ≡ suc (book.spare (sizes.cells + p))) × (book.extra (book.spare (sizes.cells + p)) ≡ blank)

-- what is true of a view that acts for a participant
pub record Carries (sizes : Sizes) (book : Book) (d : Acting) : Type 0 where
  pub sizes_are : d.sizes ≡ sizes
  pub leases : book.out d.number ≡ d.leases
  pub spare : book.spare (sizes.cells + d.number) ≡ d.spare
  pub fills : IsFilling sizes book d
  pub distinct : Distinct d.waits
  pub left : d.left ≡ 1 → book.left d.number ≡ []

pub record Items {S : Type 0} (IsIn : Content → S → Type 0) (sizes : Sizes) (state : steps.State) (book : Book) (words : List ℕ) (homes : List (maybe.Option S)) (views : List Acting) : Type 0 where
  pub parts : Parts sizes.participants sizes.slots state.items (Why state (Grip views)) book
  pub spares : Spares sizes.cells sizes.participants (names_of state.cells) state.items book
  pub lying : Lying IsIn (all_homes sizes) (all_spares sizes) book.what book.extra homes
  pub standing : (i : ℕ) (it : Item) → At state.items i it → ((q : ℕ) → it.state ≢ Reclaimed q) → (book.slot_of i < sizes.slots) × (book.stage (book.slot_of i) ≡ full i)
  pub settled : (i : ℕ) (it : Item) (q : ℕ) → At state.items i it → it.state ≢ Due q
  pub many : length state.cells ≡ sizes.cells
  pub long : length words ≡ all_words sizes
  pub cell_words : (c : ℕ) (o : Option ℕ) → At (names_of state.cells) c o → Tells (slice_index words (cell_word sizes c)) (book.spare c) (code book.slot_of o)
  pub slot_words : (k i : ℕ) (it : Item) → k < sizes.slots → book.stage k ≡ full i → At state.items i it → slice_index words (slot_word sizes k) ≡ 2 + it.owners
  pub vacancies : (k : ℕ) → k < sizes.slots → slice_index words (slot_word sizes k) ≡ 0 → book.stage k ≡ vacant
  pub alone : (c : ℕ) (o : Cell) → At state.cells c o → o.holder ≡ None
  pub free : (p : ℕ) → p < sizes.participants → slice_index words (claim_word p) ≢ 0 → Rests sizes book words p
  pub hands : (i : ℕ) (it : Item) → At state.items i it → it.hand ≡ owned owners_in_hand i views
  pub owners : (j : ℕ) (d : Acting) (o : Owner) → At views j d → Has d.hand o → Owns state.items book.slot_of o
  pub given : (i : ℕ) (it : Item) → At state.items i it → ((q : ℕ) → it.state ≢ Reclaimed q) → IsGiven state.items book.slot_of (book.held (book.slot_of i)) it
  pub waiting : (j : ℕ) (d : Acting) (w : Garbage) → At views j d → d.kind ≡ of_participant → Has d.waits w → IsWaiting state.items book.slot_of d.number w
  pub leftovers : Leftovers state.items book.slot_of book.left
  pub private : Private state.items book.slot_of views
  pub links : Links sizes words book.left views
  pub seats : (j : ℕ) (d : Acting) → At views j d → d.kind ≡ of_participant → Carries sizes book d
