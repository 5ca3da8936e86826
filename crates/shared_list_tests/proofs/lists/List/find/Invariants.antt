use Rattle.shared_lists.specs.Entries.{IsEntryOf}
use Rattle.shared_lists.specs.Lists.{IsOpenIn, IsStill}
use Rattle.shared_list_tests.proofs.lists.List.find.Given as goal

abbrev pub invariant-loop-i : goal.invariant-loop-i
invariant-loop-i l = record { same : IsStill l.fn.local l.local; guarded : IsOpenIn l.self.guard.now l.local l.self.domain.now; entry : IsEntryOf l.at l.self.domain.now }
