use Rattle.sdd_domain.specs.Tokens.{place_of}
use Rattle.shared_index_tests.proofs.from_base.an_index_of_one_thread_goes_on_in_two_and_back.Given as goal

abbrev pub ghosts-shared-L-Ledger : goal.ghosts-shared-L-Ledger
ghosts-shared-L-Ledger g a = record { name = a.stage.blank.name; parts = a.stage.blank.parts }

abbrev pub ghosts-shared-L-Naming : goal.ghosts-shared-L-Naming
ghosts-shared-L-Naming g a = record { place = place_of a.stage.domain.now; last = a.stage.start.last }
