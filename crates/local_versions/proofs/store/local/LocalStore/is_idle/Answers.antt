use Rattle.std.proofs.Common.{◌≡◌, ◌↔◌, IsTrue, None, subst}
use Rattle.std.specs.List.{All}
use Rattle.local_versions.specs.Store.{Store, read_by}
use Rattle.version_views.proofs.OptionLemmas.{idle_mapped}
use Rattle.local_versions.proofs.store.local.LocalStore.is_idle.Goals as goal

pub returns : goal.returns
returns g c = subst (λ (x : Store _ _). IsTrue c.are_free.result ↔ All (λ r. r ≡ None) x.readers) c.self.view_is (idle_mapped (read_by c.self.inside.world) c.self.inside.readers.items c.are_free.result (rw c.deref.ensures.value at c.are_free.ensures))
