use Rattle.std.proofs.Common.{◌≡◌, []}
use Rattle.sdd_domain.specs.Tokens.{home_of, place_of, own_of, hand_of}
use Rattle.sdd_domain.proofs.domain.Domain.run_out.Given as goal

abbrev pub invariant-loop-i : goal.invariant-loop-i
invariant-loop-i g l = record { home : home_of l.local ≡ place_of l.self; closed : (own_of l.local).nesting ≡ 0; bare : hand_of l.local ≡ [] }
