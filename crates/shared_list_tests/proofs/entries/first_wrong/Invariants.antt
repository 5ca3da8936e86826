use Rattle.shared_lists.specs.Entries.{IsEntryOf}
use Rattle.shared_lists.specs.Lists.{IsOpenIn, IsStill}
use Rattle.shared_list_tests.proofs.entries.first_wrong.Given as goal

abbrev pub invariant-loop-i : goal.invariant-loop-i
invariant-loop-i l = record { same : IsStill l.fn.local l.local; guarded : IsOpenIn l.guard l.local l.domain; entry : IsEntryOf l.entry l.domain }
