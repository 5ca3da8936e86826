use Rattle.std.proofs.Common.{◌≡◌, ℕ, ◌<◌, length, None, Some}
use Rattle.std.specs.List.{slice_get}
use Rattle.local_versions.proofs.store.local.LocalStore.close_all.Given as goal

abbrev pub invariant-loop-place : goal.invariant-loop-place
invariant-loop-place g l = record {
  long : length l.self.readers ≡ length l.fn.self.readers;
  freed : (i : ℕ) → i < l.place → slice_get l.self.readers i ≡ Some None;
  rest : l.self ≡ record l.fn.self { readers = l.self.readers };
}
