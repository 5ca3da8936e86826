-- what reclaiming leaves of versions
use Rattle.std.specs.Prelude.{◌≡◌, ◌≢◌, ℕ, ◌+◌, ◌≤◌, true, [], ◌∷◌, length, Some}
use Rattle.sdd_world.specs.Counting.{Counted}
use Rattle.sdd_world.specs.Holding.{SharedIn}
use Rattle.sdd_world.specs.Passing.{CanPass, IsPlain, passed_times}
use Rattle.sdd_world.specs.Place.{IsPlace}
use Rattle.sdd_world.specs.State.{IsUnused, State, cell_at, in_use, participant_at, value_at}
use Rattle.sdd_world.specs.Steps.{AllSwept, bags_empty}
use Rattle.sdd_world.specs.declared.status.Cell.TheVariants as cell
use Rattle.sdd_world.specs.declared.tag.Tag.{Tag}
use Rattle.version_views.specs.Items.{held_by, slots_of}
use Rattle.local_versions.specs.Placing.{IsFlat}
use Rattle.sdd_world.specs.declared.groups.Group.{Group}
use Rattle.version_views.specs.declared.directory.Directory.{Directory}
use Rattle.version_views.specs.declared.item.Item.{Item}
use Rattle.version_views.specs.declared.item.Item.TheVariants as items

-- a place whose one owner outside is a root, which names this directory; items wait for participant p alone
pub record IsRooted {K V : Type 0} {s : ℕ} (p c i : ℕ) (d : Directory K Group) (w : State (Item K V s)) : Type 0 where
  pub counted : Counted held_by (SharedIn c ∷ []) w
  pub plain : IsPlain w
  pub flat : IsFlat w
  pub tag : Tag
  pub root : cell_at w c ≡ cell.OfShared (Some i) tag
  pub is : value_at w i ≡ Some (items.Directory d)
  pub others : (q : ℕ) → q ≢ p → bags_empty (participant_at w q) ≡ true

-- eight accelerated guards of p, where no other is open, leave the version that the root names, and no more
pub record PassesLeaveOne (K V : Type 0) (s : ℕ) : Type 0 where
  pub left : (p c i : ℕ) (d : Directory K Group) (w : State (Item K V s)) → CanPass 8 p w → IsRooted p c i d w → in_use (passed_times held_by p 8 w) ≤ length (slots_of w.groups d) + 1

-- a place with no owner outside, and no cell: there is no root
pub record IsRootless {K V : Type 0} {s : ℕ} (w : State (Item K V s)) : Type 0 where
  pub place : IsPlace w
  pub counted : Counted held_by [] w
  pub plain : IsPlain w
  pub flat : IsFlat w
  pub cells : (c : ℕ) → cell_at w c ≡ cell.Free

-- rotations that leave nothing waiting leave no item
pub record SweepsLeaveNone (K V : Type 0) (s : ℕ) : Type 0 where
  pub none : (w w' : State (Item K V s)) → IsRootless w → AllSwept held_by w w' → IsUnused w'
