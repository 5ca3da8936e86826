use Rattle.std.proofs.Common.{ℕ, sym, subst}
use Rattle.sdd_world.specs.Place.{IsShared}
use Rattle.sdd_world.specs.State.{State}
use Rattle.sdd_world.specs.Tokens.{shared_slot}
use Rattle.version_views.specs.declared.item.Item.{Item}
use Rattle.version_tests.proofs.placing.a_version_that_finds_no_room_comes_back.Goals as goal

-- the first version keeps its owner
pub release-is_last-requires-clause-live : goal.release-is_last-requires-clause-live
release-is_last-requires-clause-live g c =
    let first = shared_slot c.begin-w.result.first in
    let sh = c.begin-w.ensures.shared in
    subst (λ (w : State (Item ℕ ℕ 2)). IsShared w first) (sym c.in-Err-NoSlot.ensures.refused.1) (record { inside = sh.inside; owners = sh.owners; is = sh.is })
