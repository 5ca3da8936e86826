use Rattle.std.proofs.Common.{◌≡◌, ℕ, ◌<◌, true, get_or}
use Rattle.sdd_table.specs.declared.bags.Participant.{Participant}
use Rattle.sdd_table.proofs.ThreadLemmas.{is_on}
use Rattle.sdd_table.proofs.bags.Participants.all_present.Given as goal

abbrev pub invariant-loop-participant : goal.invariant-loop-participant
invariant-loop-participant l = (k : ℕ) (d : Participant) → k < l.participant-index → is_on l.count (get_or l.participant-items k d) ≡ true
