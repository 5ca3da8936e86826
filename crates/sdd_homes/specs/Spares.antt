-- where the parts of owners in cells are
use Rattle.std.specs.Prelude.{◌≡◌, ℕ, ◌+◌, ◌<◌, List, Option, None, Some}
use Rattle.sdd_steps.specs.declared.item.Item.{Item}
use Rattle.sdd_steps.specs.State.{At}
use Rattle.sdd_homes.specs.Book.{Content, blank, part, Book}

-- what a cell's spare slot has when the cell names an item, or none
abbrev pub IsKept : List Item → Option ℕ → Content → Type 0
IsKept items None x = x ≡ blank
IsKept items (Some i) x = (it : Item) → At items i it → x ≡ part it.value 1

-- Each cell and each participant has a spare slot of its own; participant p is the user `cells + p`. That of a cell has the one part of its owner, if it has one.
pub record Spares (cells n : ℕ) (names : List (Option ℕ)) (items : List Item) (book : Book) : Type 0 where
  pub users : (u : ℕ) → u < cells + n → book.user (book.spare u) ≡ u
  pub range : (u : ℕ) → u < cells + n → book.spare u < cells + n
  pub kept : (c : ℕ) (o : Option ℕ) → c < cells → At names c o → IsKept items o (book.extra (book.spare c))
