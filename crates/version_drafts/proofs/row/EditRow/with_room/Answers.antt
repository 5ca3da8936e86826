use Rattle.std.proofs.Common.{Option}
use Rattle.version_views.proofs.FilterLemmas.{rising_none}
use Rattle.version_drafts.proofs.row.EditRow.with_room.Goals as goal

pub invariant_of-result : goal.invariant_of-result
invariant_of-result g c = rw c.in_ok-with_capacity.ensures.items (rising_none (Option g.row.V.Denot) g.K.Ord.cmp)
