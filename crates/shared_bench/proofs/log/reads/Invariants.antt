use Rattle.std.proofs.Common.{◌≡◌, []}
use Rattle.sdd_domain.specs.Tokens.{own_of, hand_of, home_of}
use Rattle.shared_bench.proofs.log.reads.Given as goal

abbrev pub invariant-loop-round : goal.invariant-loop-round
invariant-loop-round g l = record { home : home_of l.local ≡ g.L.Naming.place; closed : (own_of l.local).nesting ≡ 0; bare : hand_of l.local ≡ [] }
