use Rattle.std.proofs.Common.{◌≡◌, replicate}
use Rattle.sdd_table.specs.Chains.{no_participant}
use Rattle.sdd_table.proofs.bags.Participants.new.Given as goal

abbrev pub invariant-loop : goal.invariant-loop
invariant-loop l = l.links.items ≡ replicate l.counter 0

abbrev pub invariant-loop-2 : goal.invariant-loop-2
invariant-loop-2 l = l.all.items ≡ replicate l.counter no_participant
