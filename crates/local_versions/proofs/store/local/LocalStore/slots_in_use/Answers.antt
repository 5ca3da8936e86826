use Rattle.std.proofs.Common.{◌≤◌, subst}
use Rattle.local_versions.specs.Store.{Store}
use Rattle.local_versions.proofs.StoreLemmas.{slots_bounded}
use Rattle.local_versions.proofs.store.local.LocalStore.slots_in_use.Goals as goal

pub returns-clause-some : goal.returns-clause-some
returns-clause-some g c = subst (λ (x : Store _ _). 1 ≤ x.used) c.self.view_is (slots_bounded g.K.Ord.cmp c.self.inside.world _ _ c.self.invariant.0).0

pub returns-clause-within : goal.returns-clause-within
returns-clause-within g c = subst (λ (x : Store _ _). x.used ≤ x.slots) c.self.view_is (slots_bounded g.K.Ord.cmp c.self.inside.world _ _ c.self.invariant.0).1
