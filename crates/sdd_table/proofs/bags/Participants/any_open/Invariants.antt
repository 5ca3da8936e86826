use Rattle.std.proofs.Common.{◌≡◌, ℕ, ◌<◌, get_or}
use Rattle.sdd_table.specs.declared.bags.Participant.{Participant}
use Rattle.sdd_table.proofs.bags.Participants.any_open.Given as goal

abbrev pub invariant-loop-participant : goal.invariant-loop-participant
invariant-loop-participant l = (k : ℕ) (d : Participant) → k < l.participant-index → (get_or l.participant-items k d).local.nesting ≡ 0
