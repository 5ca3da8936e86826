use Rattle.std.proofs.Common.{◌≡◌, ◌+◌, ◌++◌, ◌≤◌, length, map}
use Rattle.std.specs.List.{All}
use Rattle.std.specs.Vec.Iter.{into_iter_items, into_iter_len}
use Rattle.version_drafts.specs.Shelves.{LiesOn, made_on_all, shelf_blocks}
use Rattle.version_views.specs.Items.{row_keys}
use Rattle.shared_versions.specs.Drafts.{planned_blocks, slots_on_all}
use Rattle.shared_versions.specs.Nodes.{blocks_of, own_segments, rows_of}
use Rattle.shared_versions.proofs.planned.planned_rows.Given as goal

-- the rows so far are planned, and the others are left
abbrev pub invariant-loop-row : goal.invariant-loop-row
invariant-loop-row g l =
    let rest = into_iter_items l.row-iterator in
    record {
      counted : into_iter_len l.row-iterator ≡ length rest;
      blocks : map (λ r. planned_blocks (rows_of l.old) r.segments) l.rows.items ++ map (λ r. shelf_blocks (blocks_of (own_segments l.own) l.old) r.segments) rest ≡ map (λ r. shelf_blocks (blocks_of (own_segments l.own) l.old) r.segments) l.fn.shelves.items;
      keys : map row_keys l.rows.items ++ map row_keys rest ≡ map row_keys l.fn.shelves.items;
      lies : All (λ r. LiesOn l.old.ends.items r.segments) rest;
      slots : l.slots ≡ slots_on_all l.rows.items;
      few : l.slots + made_on_all rest ≤ made_on_all l.fn.shelves.items;
    }
