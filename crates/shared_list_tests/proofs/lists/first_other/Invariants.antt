use Rattle.std.proofs.Common.{◌≡◌, []}
use Rattle.sdd_domain.specs.Tokens.{hand_of}
use Rattle.shared_lists.specs.Lists.{IsAsBefore, IsOpenIn}
use Rattle.shared_list_tests.proofs.lists.first_other.Given as goal

abbrev pub invariant-loop-i : goal.invariant-loop-i
invariant-loop-i g l = record { same : IsAsBefore l.fn.local l.local; guarded : IsOpenIn l.list.guard.now l.local l.list.domain.now; bare : hand_of l.local ≡ [] }
