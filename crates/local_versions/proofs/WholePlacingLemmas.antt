-- a version is placed whole: names for its groups come, then its rows, and then its directory
use Rattle.std.proofs.Common.{◌≡◌, ℕ, Option, map, sum_by, arith, subst}
use Rattle.std.specs.Cmp.{IsTotalOrder}
use Rattle.std.specs.Global.{Vec}
use Rattle.std.specs.declared.cmp.Ordering.{Ordering}
use Rattle.sdd_world.specs.Frame.{Frame}
use Rattle.sdd_world.specs.Place.{IsPlace}
use Rattle.sdd_world.specs.State.{IsFree, State, placed, vacancy}
use Rattle.sdd_world.specs.declared.groups.Group.{Group}
use Rattle.sdd_world.specs.declared.status.Status.TheVariants as status
use Rattle.version_views.specs.Items.{names_of, row_keys}
use Rattle.version_views.specs.declared.directory.Directory.{Directory}
use Rattle.version_views.specs.declared.item.Item.{Item}
use Rattle.version_views.specs.declared.item.Item.TheVariants as items
use Rattle.version_views.specs.declared.row.Row.{Row}
use Rattle.version_drafts.specs.Shelves.{made_on_all, shelf_blocks}
use Rattle.version_drafts.specs.declared.shelves.Shelf.{Shelf}
use Rattle.local_versions.specs.Placing.{AreRowsOf, IsPlaceable, IsSettled, OnlyNamesCome, Places, Plan, StandOn, blocks_at, list_planned, number_of, slots_for}
use Rattle.local_versions.proofs.DirectoryPlacingLemmas.{placed_whole}
use Rattle.local_versions.proofs.NamingLemmas.{named_blocks, named_stands, named_then}

module _ {K V : Type 0} {s : ℕ} (cmp : K → K → Ordering) where
  -- its rows can be placed
  pub rows_ready : (w : State (Item K V s)) (older : Option ℕ) (p : Plan K V s) → IsPlaceable cmp w older p → AreRowsOf cmp w older p.shelves.rows.items
  rows_ready w older p can = record { there = can.there; inside = can.planned.there; sizes = can.planned.cut.sizes; rising = can.planned.cut.rising }

  -- names take no slot
  pub named_room : (u u1 : State (Item K V s)) → OnlyNamesCome u u1 → Frame u u1 → sum_by vacancy u1.states ≡ sum_by vacancy u.states
  named_room u u1 come keeps = let frees = (named_stands u u1 come keeps).adds.frees in omega (arith, frees)

  -- the directory with these rows
  abbrev pub directory_with : Plan K V s → Vec (Row K Group) → Directory K Group
  directory_with p rows = record { number = p.shelves.number; length = p.shelves.length; rows = rows; separators = p.shelves.separators; ends = p.shelves.ends }

  pub place_whole : IsTotalOrder cmp → (u u1 v w : State (Item K V s)) (older : Option ℕ) (p : Plan K V s) (i : ℕ) (rows : Vec (Row K Group)) → IsSettled u → IsPlaceable cmp u older p → OnlyNamesCome u u1 → Frame u u1 → StandOn (made_on_all p.shelves.rows.items) (names_of rows.items) (map (λ (r : Row K (Shelf K V)). shelf_blocks (blocks_at u1 older) r.segments) p.shelves.rows.items) u1 v → map row_keys rows.items ≡ map row_keys p.shelves.rows.items → IsPlace v → IsFree v i → w ≡ placed i (items.Directory (directory_with p rows)) (status.Shared 1) v → Frame v w → Places cmp (slots_for p) (number_of p) (list_planned (blocks_at u older) p) i u w
  place_whole o u u1 v w older p i rows settled can come keeps st keys place free is keeps' =
      let n = made_on_all p.shelves.rows.items in
      let gs = names_of rows.items in
      let all = named_then u u1 come keeps n gs (map (λ (r : Row K (Shelf K V)). shelf_blocks (blocks_at u1 older) r.segments) p.shelves.rows.items) v st in
      let stands = subst (λ bs. StandOn n gs (map (λ (r : Row K (Shelf K V)). shelf_blocks bs r.segments) p.shelves.rows.items) u v) (named_blocks u u1 come keeps cmp older p settled can) all in
      placed_whole cmp u v w i n rows p.shelves (blocks_at u older) stands keys can.planned.cut can.planned.rowed can.planned.counted o place free is keeps'
