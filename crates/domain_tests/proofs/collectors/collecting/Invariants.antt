use Rattle.std.proofs.Common.{◌≡◌}
use Rattle.sdd_domain.specs.Collecting.{collects_in}
use Rattle.sdd_domain.specs.Tokens.{place_of}
use Rattle.domain_tests.specs.Steps.{Rests}
use Rattle.domain_tests.proofs.collectors.collecting.Given as goal

abbrev pub invariant-loop-item : goal.invariant-loop-item
invariant-loop-item l = record { rests : Rests l.domain l.local; mine : collects_in l.collector ≡ place_of l.domain }
