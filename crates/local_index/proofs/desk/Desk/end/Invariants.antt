use Rattle.std.proofs.Common.{length}
use Rattle.local_index.proofs.DeskLemmas.{Closing}
use Rattle.local_index.proofs.desk.Desk.end.Given as goal

-- the sessions that are left are open, and what is left to close leads where all of it did
abbrev pub invariant-closing : goal.invariant-closing
invariant-closing g l = Closing l.fn.self l.fn.index l.tickets.items l.index

abbrev pub decreases-closing : goal.decreases-closing
decreases-closing g l = length l.tickets.items
