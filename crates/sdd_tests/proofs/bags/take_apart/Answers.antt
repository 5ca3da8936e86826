use Rattle.std.proofs.Common.{sym, subst, ℕ}
use Rattle.sdd_world.specs.Place.{IsShared}
use Rattle.sdd_world.specs.State.{State}
use Rattle.world_containers.specs.Bags.{IsSomeBag, into_cells}
use Rattle.world_containers.specs.Entries.{entry_link}
use Rattle.world_containers.proofs.BagLemmas.{released_bag}
use Rattle.world_containers.proofs.ChainLemmas.{item_shared}
use Rattle.sdd_tests.proofs.bags.take_apart.Goals as goal

pub as_ref-requires : goal.as_ref-requires
as_ref-requires g c =
    let b = c.requires.list in
    let t = c.in-Some.ensures.popped b.primary b.overflow b.is in
    subst (λ (i : ℕ). IsShared c.next.new.w i) (sym t.at) (item_shared entry_link c.next.new.w t.entry t.loose.item)

pub release-requires-clause-live : goal.release-requires-clause-live
release-requires-clause-live g c =
    let b = c.requires.list in
    let t = c.in-Some.ensures.popped b.primary b.overflow b.is in
    subst (λ (i : ℕ). IsShared c.next.new.w i) (sym t.at) (item_shared entry_link c.next.new.w t.entry t.loose.item)

pub returns-in-Some-clause-list : goal.returns-in-Some-clause-list
returns-in-Some-clause-list g c =
    let b = c.requires.list in
    subst (λ (w : State _). IsSomeBag g.row.N w (into_cells c.args.iter.now)) (sym c.release.ensures.released) (released_bag g.row.N 0 _ _ (into_cells c.args.iter.now) b.primary b.overflow (c.in-Some.ensures.popped b.primary b.overflow b.is))
