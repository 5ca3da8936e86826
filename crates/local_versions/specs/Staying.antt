-- versions stay whole
use Rattle.std.specs.Prelude.{◌≡◌, ℕ, List, Some}
use Rattle.std.specs.declared.cmp.Ordering.{Ordering}
use Rattle.std.specs.List.{All}
use Rattle.sdd_world.specs.Counting.{Counted}
use Rattle.sdd_world.specs.Frame.{IsLive, Frame, Protects}
use Rattle.sdd_world.specs.Groups.{SameRows}
use Rattle.sdd_world.specs.Holding.{Hold}
use Rattle.sdd_world.specs.Place.{IsOpen, IsPlace, IsShared}
use Rattle.sdd_world.specs.State.{State, value_at}
use Rattle.version_views.specs.Items.{held_by, slots_of}
use Rattle.local_versions.specs.Placing.{HasVersion}
use Rattle.sdd_world.specs.declared.groups.Group.{Group}
use Rattle.version_views.specs.declared.directory.Directory.{Directory}
use Rattle.version_views.specs.declared.item.Item.{Item}
use Rattle.version_views.specs.declared.item.Item.TheVariants as items

-- the open guard of q protects the directory in slot i, and its segments
pub record IsSeen {K V : Type 0} {s : ℕ} (w : State (Item K V s)) (q i : ℕ) (d : Directory K Group) : Type 0 where
  pub item : Protects w q i
  pub segments : All (λ j. Protects w q j) (slots_of w.groups d)

-- what a call leaves, where owners are counted before and afterwards: the frame, and the rows of groups
pub record Leaves {K V : Type 0} {s : ℕ} (w w' : State (Item K V s)) : Type 0 where
  pub before : List Hold
  pub counted : Counted held_by before w
  pub after : List Hold
  pub still : Counted held_by after w'
  pub keeps : Frame w w'
  pub rows : SameRows w.groups w'.groups

pub record VersionsStay (K V : Type 0) (s : ℕ) (cmp : K → K → Ordering) : Type 0 where
  -- a directory that is there owns its segments
  pub owns : (hand : List Hold) (w : State (Item K V s)) (i : ℕ) (d : Directory K Group) → Counted held_by hand w → value_at w i ≡ Some (items.Directory d) → All (λ j. IsShared w j) (slots_of w.groups d)
  -- a version that has an owner stays whole over each call
  pub owned : (w w' : State (Item K V s)) (i number : ℕ) (pairs : List (K × V)) → IsLive w i → HasVersion cmp w i number pairs → Leaves w w' → HasVersion cmp w' i number pairs
  -- where a guard is open, it protects each version that has an owner, with its segments
  pub seen : (hand : List Hold) (w : State (Item K V s)) (q i number : ℕ) (pairs : List (K × V)) → Counted held_by hand w → IsPlace w → IsLive w i → (v : HasVersion cmp w i number pairs) → IsSeen w q i v.directory
  -- a version that an open guard protects stays whole, and protected, until the guard closes
  pub stays : (w w' : State (Item K V s)) (q i number : ℕ) (pairs : List (K × V)) → IsOpen w q → IsOpen w' q → (v : HasVersion cmp w i number pairs) → IsSeen w q i v.directory → Leaves w w' → (v' : HasVersion cmp w' i number pairs) × IsSeen w' q i v'.directory
