use Rattle.std.proofs.Common.{◌≡◌, Some, get_or, length, slice_get, sym, ap, ◌∙◌, arith, subst}
use Rattle.version_drafts.specs.Shelves.{LiesOn, shelf_blocks}
use Rattle.shared_versions.specs.Nodes.{blocks_of, own_segments}
use Rattle.shared_versions.proofs.SharingLemmas.{whole_row}
use Rattle.shared_versions.proofs.planned.planned_row.Goals as goal

-- a row of the older version has what lies in it
pub returns-in_ok-older_row-in-Older-clause-blocks : goal.returns-in_ok-older_row-in-Older-clause-blocks
returns-in_ok-older_row-in-Older-clause-blocks g c =
    let d = c.args.old.now in
    let lies = subst (LiesOn d.ends.items) c.in-Older.is c.requires.lies in
    let row = whole_row (own_segments c.args.own.now) d c.requires.whole c.in-Older.row c.in-Older.from c.in-Older.upto lies in
    c.in_ok-older_row-in-Older.ensures.blocks row.0 row.1 ∙ row.2 ∙ sym (ap (shelf_blocks (blocks_of (own_segments c.args.own.now) d)) c.in-Older.is)
