use Rattle.std.proofs.Common.{◌≡◌, []}
use Rattle.sdd_domain.specs.Tokens.{own_of, hand_of, home_of, place_of}
use Rattle.shared_list_tests.proofs.threads.pushing.Given as goal

abbrev pub invariant-loop-i : goal.invariant-loop-i
invariant-loop-i l = record { home : home_of l.local ≡ place_of l.domain; closed : (own_of l.local).nesting ≡ 0; bare : hand_of l.local ≡ [] }
