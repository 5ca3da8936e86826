use Rattle.sdd_domain.specs.Tokens.{place_of}
use Rattle.shared_book_tests.proofs.table.on_a_small_book.Given as goal

abbrev pub ghosts-by_ones-L-Ledger : goal.ghosts-by_ones-L-Ledger
ghosts-by_ones-L-Ledger g a = record { name = a.blank.name; parts = a.blank.parts }

abbrev pub ghosts-by_ones-L-Naming : goal.ghosts-by_ones-L-Naming
ghosts-by_ones-L-Naming g a = record { place = place_of a.domain.now; last = a.table.now.last }
