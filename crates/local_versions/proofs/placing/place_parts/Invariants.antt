use Rattle.std.proofs.Common.{◌≡◌, ◌≤◌, ◌+◌, ◌++◌, ℕ, length, map, sum_by, vec_capacity}
use Rattle.std.specs.Vec.Iter.{into_iter_items, into_iter_len}
use Rattle.sdd_world.specs.State.{status_at, vacancy}
use Rattle.sdd_world.specs.Steps.{times}
use Rattle.sdd_world.specs.Tokens.{kept_slot}
use Rattle.version_drafts.specs.Parts.{blocks_of_parts, made_in, segments_in}
use Rattle.local_versions.specs.Placing.{CanTakeOver, StandsIn, blocks_at, older_slot, slots_at, taken_slots}
use Rattle.local_versions.proofs.placing.place_parts.Given as goal

-- the parts so far stand, and there is room for the others
abbrev pub invariant-loop-part : goal.invariant-loop-part
invariant-loop-part g l =
    let rest = into_iter_items l.part-iterator in
    let older = older_slot l.older in
    let slots = slots_at l.fn.w older in
    record {
      whole : l.yielded ++ rest ≡ l.fn.parts.items;
      counted : into_iter_len l.part-iterator ≡ length rest;
      stands : StandsIn (made_in l.yielded) (map kept_slot l.owners.items) (blocks_of_parts (blocks_at l.fn.w older) l.yielded) l.fn.w l.w;
      room : length l.owners.items + segments_in rest ≤ vec_capacity l.owners;
      free : made_in rest ≤ sum_by vacancy l.w.states;
      once : (i : ℕ) → times i (taken_slots slots rest) ≤ 1;
      there : CanTakeOver l.fn.w older rest;
      still : (i : ℕ) → 1 ≤ times i (taken_slots slots rest) → status_at l.w i ≡ status_at l.fn.w i;
    }
