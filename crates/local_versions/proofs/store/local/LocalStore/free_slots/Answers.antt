use Rattle.std.proofs.Common.{◌≡◌, ◌+◌, subst, arith}
use Rattle.local_versions.specs.Store.{Store}
use Rattle.local_versions.proofs.PublishLemmas.{plain_sum}
use Rattle.local_versions.proofs.store.local.LocalStore.free_slots.Goals as goal

pub returns : goal.returns
returns g c =
    let free = c.free_slots.ensures in
    let sum = plain_sum c.self.inside.world.states c.self.invariant.0.plain in
    subst (λ (x : Store _ _). c.free_slots.result + x.used ≡ x.slots) c.self.view_is (omega (arith, free, sum))
