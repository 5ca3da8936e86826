use Rattle.std.proofs.Common.{◌≡◌, ◌≤◌, ℕ, Some, IfSome, map}
use Rattle.std.specs.List.{slice_get}
use Rattle.std.specs.Option.{option_map}
use Rattle.sdd_world.specs.State.{value_at}
use Rattle.version_views.specs.Versions.{IsVersion, list_of}
use Rattle.local_versions.specs.Store.{read_by}
use Rattle.local_versions.proofs.store.readers.nearest.Given as goal

-- what was found so far is a reader's version, with a number up to this one
abbrev pub invariant-loop-place : goal.invariant-loop-place
invariant-loop-place g l = record {
  version : IfSome l.found (λ d. IsVersion g.K.Ord.cmp l.w.groups (value_at l.w) d.now);
  reader : IfSome l.found (λ d. (place : ℕ) × (slice_get (map (option_map (read_by l.w)) l.readers) place ≡ Some (Some (record { number = d.now.number; pairs = list_of l.w.groups (value_at l.w) d.now }))));
  number : IfSome l.found (λ d. d.now.number ≤ l.number);
}
