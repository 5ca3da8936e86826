use Rattle.std.proofs.Common.{◌≡◌}
use Rattle.shared_lists.specs.Entries.{IsLentAs, HasMadeMany}
use Rattle.shared_lists.specs.Lists.{IsStill}
use Rattle.shared_lists.proofs.linked_entry.LinkedEntry.push_back.Given as goal

abbrev pub invariant-loop-i : goal.invariant-loop-i
invariant-loop-i g l = record { same : IsStill l.fn.local l.local; back : IsLentAs l.entry l.fn.entry; many : HasMadeMany l.fn.local l._i l.local }
