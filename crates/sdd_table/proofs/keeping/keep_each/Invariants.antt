use Rattle.std.proofs.Common.{◌≡◌, ◌+◌, ◌≤◌, ◌++◌, length, map, take, vec_capacity}
use Rattle.sdd_table.specs.Place.{AddsOwners}
use Rattle.sdd_table.specs.State.{uses_alone}
use Rattle.sdd_table.specs.Tokens.{kept_slot}
use Rattle.sdd_table.proofs.keeping.keep_each.Given as goal

-- those before the place have one more owner, which is kept
abbrev pub invariant-loop-kept : goal.invariant-loop-kept
invariant-loop-kept l =
    let passed = take l.kept-index (map kept_slot l.row) in
    record {
      owners : map kept_slot l.into.items ≡ map kept_slot l.fn.into.items ++ passed;
      raised : AddsOwners passed (uses_alone l.fn.states.items) (uses_alone l.states.items);
      long : length l.into.items ≡ length l.fn.into.items + l.kept-index;
      room : vec_capacity l.fn.into ≤ vec_capacity l.into;
    }
