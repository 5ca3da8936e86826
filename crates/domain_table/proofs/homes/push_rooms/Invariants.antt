use Rattle.std.proofs.Common.{◌≡◌, ◌≤◌, length}
use Rattle.std.specs.Vec.{vec_capacity}
use Rattle.domain_table.specs.Contents.{AreResting}
use Rattle.domain_table.proofs.homes.push_rooms.Given as goal

abbrev pub invariant-loop-at : goal.invariant-loop-at
invariant-loop-at g l = record {
  number : length l.homes.items ≡ l.at;
  resting : AreResting g.H.Holding.holds l.deeds l.homes.items;
  room : l.count ≤ vec_capacity l.homes;
  kept : vec_capacity l.fn.homes ≤ vec_capacity l.homes;
}
