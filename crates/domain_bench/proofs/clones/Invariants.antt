use Rattle.std.proofs.Common.{◌≡◌}
use Rattle.sdd_domain.specs.Sharing.{kept_in}
use Rattle.sdd_domain.specs.Tokens.{place_of}
use Rattle.shared_containers.specs.Containers.{IsAsBefore}
use Rattle.domain_bench.proofs.clones.Given as goal

abbrev pub invariant-loop-i : goal.invariant-loop-i
invariant-loop-i l = record { mine : kept_in l.owner ≡ (place_of l.domain).0; same : IsAsBefore l.fn.local l.local }
