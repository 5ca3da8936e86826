use Rattle.sdd_domain.specs.Tokens.{place_of}
use Rattle.shared_book_tests.proofs.from_base.begins_alone.Given as goal

abbrev pub ghosts-begins-L-Ledger : goal.ghosts-begins-L-Ledger
ghosts-begins-L-Ledger g a = record { name = a.blank.name; parts = a.blank.parts }

abbrev pub ghosts-begins-L-Naming : goal.ghosts-begins-L-Naming
ghosts-begins-L-Naming g a = record { place = place_of a.domain.now; last = 18446744073709551615 }
