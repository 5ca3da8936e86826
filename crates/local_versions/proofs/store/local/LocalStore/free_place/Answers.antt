use Rattle.std.proofs.Common.{ap, refl, sym, List, Option}
use Rattle.local_versions.specs.Store.{Version}
use Rattle.local_versions.proofs.PlaceLemmas.{freed}
use Rattle.local_versions.proofs.store.local.LocalStore.free_place.Goals as goal

pub returns-else-is_read : goal.returns-else-is_read
returns-else-is_read g c = ap (λ (rs : List (Option (Version _ _))). record c.args.self.now { readers = rs }) (sym (freed c.args.self.now.readers c.args.place (c.if-is_read.ensures.no refl)))
