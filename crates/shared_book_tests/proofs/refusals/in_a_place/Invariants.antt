use Rattle.sdd_domain.specs.Tokens.{place_of}
use Rattle.shared_book_tests.proofs.refusals.in_a_place.Given as goal

abbrev pub ghosts-writes_and_audits-L-Ledger : goal.ghosts-writes_and_audits-L-Ledger
ghosts-writes_and_audits-L-Ledger g a = record { name = a.blank.name; parts = a.blank.parts }

abbrev pub ghosts-writes_and_audits-L-Naming : goal.ghosts-writes_and_audits-L-Naming
ghosts-writes_and_audits-L-Naming g a = record { place = place_of a.domain.now; last = 18446744073709551615 }
