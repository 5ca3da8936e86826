use Rattle.std.proofs.Common.{◌≡◌, ◌+◌, ◌≤◌, [], ◌++◌, length, map, reverse}
use Rattle.std.specs.List.{All}
use Rattle.std.specs.Prelude.{vec_capacity}
use Rattle.sdd_domain.specs.CellSteps.{StepsOnNoCell}
use Rattle.sdd_domain.specs.Tokens.{place_of, hand_of}
use Rattle.shared_versions.specs.Drafts.{planned_placed}
use Rattle.shared_versions.specs.Placing.{IsGrantedIn, IsKeptRow, IsStill, IsThere, IsToKeep, blocks_kept, blocks_to_keep, granted_face, moved_from, planned_face, row_face, taken_from}
use Rattle.shared_versions.proofs.granting.grant_all.Given as goal

-- the owners are those of the last rows, from the last one on; the other rows are left
abbrev pub invariant-granting : goal.invariant-granting
invariant-granting g l =
    let named = map blocks_kept l.fn.kept.items in
    record {
      faces : map (row_face (planned_face named)) l.fn.planned.items ≡ map (row_face (planned_face named)) l.planned.items ++ reverse (map (row_face granted_face) l.granted.items);
      blocks : map (λ r. planned_placed named r.segments) l.fn.planned.items ≡ map (λ r. planned_placed named r.segments) l.planned.items ++ reverse (map (blocks_to_keep named) l.to_keep.items);
      from : map (λ r. taken_from r.segments) l.fn.planned.items ≡ map (λ r. taken_from r.segments) l.planned.items ++ reverse (map moved_from l.to_keep.items);
      there : All (λ r. IsThere named r.segments) l.planned.items;
      owners : All (λ r. IsGrantedIn (place_of l.fn.domain).0 r.segments) l.granted.items;
      to_keep : All (IsToKeep (place_of l.fn.domain).0 (length l.fn.kept.items)) l.to_keep.items;
      kept : All (IsKeptRow (place_of l.fn.domain).0) l.kept.items;
      still : map blocks_kept l.kept.items ≡ map blocks_kept l.fn.kept.items;
      places : length l.kept.items ≡ length l.fn.kept.items;
      room : length l.planned.items + length l.granted.items ≤ vec_capacity l.granted;
      room_to_keep : length l.planned.items + length l.to_keep.items ≤ vec_capacity l.to_keep;
      hand : hand_of l.local ≡ [];
      same : IsStill l.fn.local l.local;
      cells : StepsOnNoCell l.fn.local l.local;
    }

abbrev pub decreases-granting : goal.decreases-granting
decreases-granting g l = length l.planned.items
