use Rattle.sdd_domain.specs.Tokens.{place_of}
use Rattle.shared_bench.proofs.measure.Given as goal

abbrev pub ghosts-run-L-Ledger : goal.ghosts-run-L-Ledger
ghosts-run-L-Ledger g a = record { name = a.blank.name; parts = a.blank.parts }

abbrev pub ghosts-run-L-Naming : goal.ghosts-run-L-Naming
ghosts-run-L-Naming g a = record { place = place_of a.domain.now; last = 18446744073709551615 }
