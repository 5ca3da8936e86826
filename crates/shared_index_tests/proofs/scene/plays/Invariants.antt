use Rattle.sdd_domain.specs.Tokens.{place_of}
use Rattle.shared_index_tests.proofs.scene.plays.Given as goal

abbrev pub ghosts-named-L-Ledger : goal.ghosts-named-L-Ledger
ghosts-named-L-Ledger g a = record { name = a.stage.blank.name; parts = a.stage.blank.parts }

abbrev pub ghosts-named-L-Naming : goal.ghosts-named-L-Naming
ghosts-named-L-Naming g a = record { place = place_of a.stage.domain.now; last = a.stage.start.last }
