use Rattle.std.proofs.Common.{◌-◌, length, drop}
use Rattle.std.specs.List.{FoldsTo}
use Rattle.leaf_array.specs.Calls.{IsFolded, TakesEach, TakesFolded}
use Rattle.leaf_array.proofs.array.Array.fold.Given as goal

abbrev pub invariant-loop-at : goal.invariant-loop-at
invariant-loop-at g l = record {
  again : TakesEach (TakesFolded g.F.FnMut) (IsFolded g.F.FnMut) (l.f, l.made) (drop l.at l.self.pairs);
  rest : (q : _) → FoldsTo (IsFolded g.F.FnMut) (l.f, l.made) (drop l.at l.self.pairs) q → FoldsTo (IsFolded g.F.FnMut) (l.fn.f, l.fn.init) l.self.pairs q;
}

abbrev pub decreases-loop-at : goal.decreases-loop-at
decreases-loop-at g l = length l.self.pairs - l.at
