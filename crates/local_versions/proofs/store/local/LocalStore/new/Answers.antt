use Rattle.std.proofs.Common.{[], arith}
use Rattle.local_versions.proofs.BuildingLemmas.{alone}
use Rattle.local_versions.proofs.store.local.LocalStore.new.Goals as goal

pub begun-requires : goal.begun-requires
begun-requires g c =
    let one = c.empty.ensures.slots in
    let some = c.requires.some_slot in
    (omega arith, (omega arith, (c.requires, (alone g.K.Ord.cmp [] c.empty.result c.empty.ensures.list c.empty.ensures.planned, omega (arith, one, some)))))

pub returns : goal.returns
returns g c = rw (c.empty.ensures.number, c.empty.ensures.slots, c.empty.ensures.list []) at c.begun.ensures
