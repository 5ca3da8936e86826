use Rattle.sdd_domain.specs.Tokens.{place_of}
use Rattle.shared_index.proofs.tasks.run_within.Given as goal

abbrev pub ghosts-run_named-L-Ledger : goal.ghosts-run_named-L-Ledger
ghosts-run_named-L-Ledger g a = record { name = a.blank.name; parts = a.blank.parts }

abbrev pub ghosts-run_named-L-Naming : goal.ghosts-run_named-L-Naming
ghosts-run_named-L-Naming g a = record { place = place_of a.domain.now; last = 18446744073709551615 }
