use Rattle.std.proofs.Common.{◌-◌, Ok, map}
use Rattle.std.specs.List.{range_with_len}
use Rattle.leaf_array.specs.Cells.{slot_of}
use Rattle.leaf_array.specs.Calls.{IsShown, TakesEach, TakesShown, TriesEach, slots_in_order}
use Rattle.leaf_array.proofs.array.Array.show.Given as goal

abbrev pub invariant-loop-place : goal.invariant-loop-place
invariant-loop-place g l = record {
  again : TakesEach (TakesShown g.F.FnMut l.self) (λ f slot h. IsShown g.F.FnMut l.self f slot (Ok tt) h) l.f (map slot_of (range_with_len l.place (l.self.used - l.place)));
  rest : (r : _) (q : _) → TriesEach (IsShown g.F.FnMut l.self) l.f (map slot_of (range_with_len l.place (l.self.used - l.place))) r q → TriesEach (IsShown g.F.FnMut l.self) l.fn.f (slots_in_order l.self.used) r q;
}

abbrev pub decreases-loop-place : goal.decreases-loop-place
decreases-loop-place g l = l.self.used - l.place
