use Rattle.sdd_domain.specs.Tokens.{place_of}
use Rattle.shared_book_tests.proofs.from_base.insisted.Given as goal

abbrev pub ghosts-tried-L-Ledger : goal.ghosts-tried-L-Ledger
ghosts-tried-L-Ledger g a = record { name = a.blank.name; parts = a.blank.parts }

abbrev pub ghosts-tried-L-Naming : goal.ghosts-tried-L-Naming
ghosts-tried-L-Naming g a = record { place = place_of a.domain.now; last = 18446744073709551615 }
