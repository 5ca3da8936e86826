use Rattle.std.proofs.Common.{◌≡◌, None, length}
use Rattle.std.specs.List.{All}
use Rattle.local_versions.proofs.store.readers.end_all.Given as goal

-- the places that are left have no readers
abbrev pub invariant-ending : goal.invariant-ending
invariant-ending g l = All (λ p. p ≡ None) l.readers.items

abbrev pub decreases-ending : goal.decreases-ending
decreases-ending g l = length l.readers.items
