use Rattle.std.proofs.Common.{◌≡◌, ℕ, ◌-◌, ◌<◌, false, get_or}
use Rattle.core.specs.Mem.Slots.{slots_filled, slots_len}
use Rattle.core.specs.Mem.Slots.Ownership.{Filled}
use Rattle.domain_table.proofs.homes.empty.Given as goal

abbrev pub invariant-loop-at : goal.invariant-loop-at
invariant-loop-at g l = record {
  rest : Filled (slots_filled l.closed.slots) l.at (slots_len l.closed.slots);
  taken : (k : ℕ) → k < l.at → get_or (slots_filled l.closed.slots) k false ≡ false;
}

abbrev pub decreases-loop-at : goal.decreases-loop-at
decreases-loop-at g l = slots_len l.closed.slots - l.at
