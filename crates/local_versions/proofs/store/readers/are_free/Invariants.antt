use Rattle.std.proofs.Common.{◌≡◌, None}
use Rattle.std.specs.List.{AllWithin}
use Rattle.local_versions.proofs.store.readers.are_free.Given as goal

-- the places so far are free
abbrev pub invariant-loop-place : goal.invariant-loop-place
invariant-loop-place g l = AllWithin (λ p. p ≡ None) l.readers 0 l.place-index
