-- the slots of the table have what the book says
use Rattle.std.specs.Prelude.{◌≡◌, ◌≢◌, ℕ, ◌+◌, ◌<◌, List, length}
use mathlib.Core.Option.{Option, some}
use lib.ListN.{get_elem?}
use Rattle.sdd_homes.specs.Book.{Content, away}

-- `IsIn x y`: the value y of a slot is what the content x says
module _ {S : Type 0} (IsIn : Content → S → Type 0) where
  -- a slot is at home with what the book says of it, if it says anything
  abbrev pub Fits : Content → Option (Option S) → Type 0
  Fits x o = x ≢ away → (y : S) × (o ≡ some (some y)) × IsIn x y

  -- the homes, and the spare slots behind them
  pub record Lying (homes spares : ℕ) (what extra : ℕ → Content) (slots : List (Option S)) : Type 0 where
    pub long : length slots ≡ homes + spares
    pub low : (i : ℕ) → i < homes → Fits (what i) (get_elem? slots i)
    pub high : (y : ℕ) → y < spares → Fits (extra y) (get_elem? slots (homes + y))
