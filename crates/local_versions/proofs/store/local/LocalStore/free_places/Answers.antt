use Rattle.std.proofs.Common.{◌≡◌, subst, arith}
use Rattle.std.specs.List.{sum_by}
use Rattle.local_versions.specs.Store.{Store, gap, read_by}
use Rattle.local_versions.proofs.FreePlaceLemmas.{gaps_mapped}
use Rattle.local_versions.proofs.store.local.LocalStore.free_places.Goals as goal

pub returns : goal.returns
returns g c =
    let inside = c.self.inside in
    let count = c.len.ensures in
    let free = c.self.invariant.1.lists.count in
    let mapped = gaps_mapped (read_by inside.world) inside.readers.items in
    subst (λ (x : Store _ _). c.len.result ≡ sum_by gap x.readers) c.self.view_is (omega (arith, count, free, mapped))
