use Rattle.sdd_domain.specs.Tokens.{place_of}
use Rattle.shared_book_tests.proofs.table.on_a_book.Given as goal

abbrev pub ghosts-by_twos-L-Ledger : goal.ghosts-by_twos-L-Ledger
ghosts-by_twos-L-Ledger g a = record { name = a.blank.name; parts = a.blank.parts }

abbrev pub ghosts-by_twos-L-Naming : goal.ghosts-by_twos-L-Naming
ghosts-by_twos-L-Naming g a = record { place = place_of a.domain.now; last = a.table.now.last }
