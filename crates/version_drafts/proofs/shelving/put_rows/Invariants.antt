use Rattle.std.proofs.Common.{◌≡◌, ◌≤◌, ◌+◌, ◌-◌, [], length}
use Rattle.version_views.specs.Rows.{between, start_of}
use Rattle.version_drafts.specs.Shelves.{HasRoom, TakesMore}
use Rattle.version_drafts.proofs.shelving.put_rows.Given as goal

-- the rows so far are taken, and there is room for all others
abbrev pub invariant-loop-row : goal.invariant-loop-row
invariant-loop-row g l =
    let ends = l.rows.ends.items in
    record {
      begins : l.first ≤ l.row;
      inside : l.row ≤ length ends;
      at : l.at ≡ start_of ends l.row;
      more : start_of ends l.first + (l.row - l.first) ≤ l.at;
      within : l.at ≤ l.upto;
      taken : TakesMore l.old ends (between (start_of ends l.first) l.at l.old) 0 l.fn.out l.out;
      none : l.out.keys.items ≡ [];
      room : HasRoom (length ends - l.row) l.out;
    }

abbrev pub decreases-loop-row : goal.decreases-loop-row
decreases-loop-row g l = length l.rows.ends.items - l.row
