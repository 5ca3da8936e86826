use Rattle.std.proofs.Common.{◌≡◌, ◌+◌, ◌≤◌, ◌++◌, length, map, reverse}
use Rattle.std.specs.List.{All}
use Rattle.std.specs.Prelude.{vec_capacity}
use Rattle.sdd_domain.specs.CellSteps.{StepsOnNoCell}
use Rattle.sdd_domain.specs.Holding.{all_told}
use Rattle.sdd_domain.specs.Tokens.{place_of, hand_of}
use Rattle.shared_versions.specs.Nodes.{OwnsRow, holds_in, own_segments}
use Rattle.shared_versions.specs.Placing.{IsGrantedIn, IsStill, granted_face, owner_face, row_face}
use Rattle.shared_versions.proofs.rows.hold_rows.Given as goal

-- the first rows are held, and their owners in hand, and the others are left
abbrev pub invariant-holding : goal.invariant-holding
invariant-holding g l = record {
  faces : map (row_face (owner_face (own_segments l.own.items))) l.rows.items ++ reverse (map (row_face granted_face) l.granted.items) ≡ reverse (map (row_face granted_face) l.fn.granted.items);
  owners : All (λ r. IsGrantedIn (place_of l.fn.domain).0 r.segments) l.granted.items;
  owned : All (λ r. OwnsRow (own_segments l.own.items) r.segments) l.rows.items;
  room : (length l.granted.items + length l.rows.items ≤ vec_capacity l.rows) × (length l.granted.items + length l.own.items ≤ vec_capacity l.own);
  hand : hand_of l.local ≡ all_told (holds_in l.rows.items);
  same : IsStill l.fn.local l.local;
  cells : StepsOnNoCell l.fn.local l.local;
}

abbrev pub decreases-holding : goal.decreases-holding
decreases-holding g l = length l.granted.items
