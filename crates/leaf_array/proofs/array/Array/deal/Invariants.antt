use Rattle.std.proofs.Common.{◌-◌, length, drop}
use Rattle.std.specs.List.{FoldsTo, enumerate_from}
use Rattle.leaf_array.specs.Calls.{IsDealt, TakesDealt, TakesEach}
use Rattle.leaf_array.proofs.array.Array.deal.Given as goal

abbrev pub invariant-loop-at : goal.invariant-loop-at
invariant-loop-at g l = record {
  again : TakesEach (TakesDealt g.F.FnMut l.boundary) (IsDealt g.F.FnMut l.boundary) l.dist (enumerate_from l.at (drop l.at l.self.pairs));
  rest : (q : _) → FoldsTo (IsDealt g.F.FnMut l.boundary) l.dist (enumerate_from l.at (drop l.at l.self.pairs)) q → FoldsTo (IsDealt g.F.FnMut l.boundary) l.fn.dist (enumerate_from 0 l.self.pairs) q;
}

abbrev pub decreases-loop-at : goal.decreases-loop-at
decreases-loop-at g l = length l.self.pairs - l.at
