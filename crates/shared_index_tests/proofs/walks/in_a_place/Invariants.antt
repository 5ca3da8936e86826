use Rattle.sdd_domain.specs.Tokens.{place_of}
use Rattle.shared_index_tests.proofs.walks.in_a_place.Given as goal

abbrev pub ghosts-kept_on-L-Ledger : goal.ghosts-kept_on-L-Ledger
ghosts-kept_on-L-Ledger g a = record { name = a.stage.blank.name; parts = a.stage.blank.parts }

abbrev pub ghosts-kept_on-L-Naming : goal.ghosts-kept_on-L-Naming
ghosts-kept_on-L-Naming g a = record { place = place_of a.stage.domain.now; last = a.stage.start.last }
