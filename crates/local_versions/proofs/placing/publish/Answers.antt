use Rattle.std.proofs.Common.{sym, ap, ◌∙◌, subst}
use Rattle.sdd_world.specs.Place.{IsShared}
use Rattle.sdd_world.specs.State.{State}
use Rattle.sdd_world.specs.Tokens.{shared_slot, shared_slots}
use Rattle.sdd_world.specs.declared.status.Cell.TheVariants as cell
use Rattle.local_versions.proofs.placing.publish.Goals as goal

-- an exchange of the root leaves the owners
pub release-last-requires-clause-live : goal.release-last-requires-clause-live
release-last-requires-clause-live g c =
    let slot = shared_slot c.in-Some.older in
    let tag = c.swap-older.result.1 in
    let owned = c.requires.owned slot tag (c.swap-older.ensures.was ∙ ap (λ o. cell.OfShared (shared_slots o) tag) c.in-Some.is) in
    subst (λ (w : State _). IsShared w slot) (sym c.swap-older.ensures.now) (record { inside = owned.inside; owners = owned.owners; is = owned.is })
