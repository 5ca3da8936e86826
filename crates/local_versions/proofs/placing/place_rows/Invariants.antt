use Rattle.std.proofs.Common.{◌≡◌, ◌≤◌, ◌+◌, ◌++◌, length, map, sum_by, vec_capacity}
use Rattle.std.specs.Vec.Iter.{into_iter_items, into_iter_len}
use Rattle.sdd_world.specs.Groups.{free_names}
use Rattle.sdd_world.specs.State.{vacancy}
use Rattle.version_views.specs.Items.{names_of, row_keys}
use Rattle.version_drafts.specs.Shelves.{made_on_all, shelf_blocks}
use Rattle.local_versions.specs.Placing.{StandOn, blocks_at, older_slot}
use Rattle.local_versions.specs.Rooms.{RoomsFit, new_sizes}
use Rattle.local_versions.proofs.placing.place_rows.Given as goal

-- the rows so far stand, and there is room for the others
abbrev pub invariant-loop-shelf : goal.invariant-loop-shelf
invariant-loop-shelf g l =
    let rest = into_iter_items l.shelf-iterator in
    record {
      whole : l.yielded ++ rest ≡ l.fn.shelves.items;
      counted : into_iter_len l.shelf-iterator ≡ length rest;
      stands : StandOn (made_on_all l.yielded) (names_of l.rows.items) (map (λ r. shelf_blocks (blocks_at l.fn.w (older_slot l.older)) r.segments) l.yielded) l.fn.w l.w;
      keys : map row_keys l.rows.items ≡ map row_keys l.yielded;
      many : length l.rows.items ≡ length l.yielded;
      room : length l.rows.items + length rest ≤ vec_capacity l.rows;
      rooms : RoomsFit l.rooms.items (new_sizes rest);
      free : made_on_all rest ≤ sum_by vacancy l.w.states;
      names : length rest ≤ free_names l.w.groups;
    }
