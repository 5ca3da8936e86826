use Rattle.std.proofs.Common.{◌-◌, nat_lt}
use Rattle.std.specs.List.{FoldsTo, filter, range_with_len}
use Rattle.leaf_array.specs.Cells.{rank_in}
use Rattle.leaf_array.specs.Calls.{ranked_slots, TakesEach}
use Rattle.leaf_array.proofs.array.Array.visit.Given as goal

abbrev pub invariant-loop-slot : goal.invariant-loop-slot
invariant-loop-slot g l = record {
  again : TakesEach (λ f slot. goal.F-pre g f slot) (λ f slot h. goal.F-step g f slot tt h) l.f (filter (λ slot. nat_lt 0 (rank_in slot l.self.labels)) (range_with_len l.slot (15 - l.slot)));
  rest : (q : _) → FoldsTo (λ f slot h. goal.F-step g f slot tt h) l.f (filter (λ slot. nat_lt 0 (rank_in slot l.self.labels)) (range_with_len l.slot (15 - l.slot))) q → FoldsTo (λ f slot h. goal.F-step g f slot tt h) l.fn.f (ranked_slots l.self.labels) q;
}

abbrev pub decreases-loop-slot : goal.decreases-loop-slot
decreases-loop-slot g l = 15 - l.slot
