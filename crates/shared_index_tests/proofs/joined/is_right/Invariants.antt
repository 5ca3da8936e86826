use Rattle.sdd_domain.specs.Tokens.{place_of}
use Rattle.shared_index_tests.proofs.joined.is_right.Given as goal

abbrev pub ghosts-by_width-L-Ledger : goal.ghosts-by_width-L-Ledger
ghosts-by_width-L-Ledger g a = record { name = a.stage.blank.name; parts = a.stage.blank.parts }

abbrev pub ghosts-by_width-L-Naming : goal.ghosts-by_width-L-Naming
ghosts-by_width-L-Naming g a = record { place = place_of a.stage.domain.now; last = a.stage.start.last }
