use Rattle.std.proofs.Common.{List, [], ◌∷◌}
use Rattle.sdd_world.specs.Holding.{Hold, SharedIn, SharedItem}
use Rattle.sdd_world.specs.Tokens.{shared_cell, shared_slot}
use Rattle.version_tests.proofs.schedule.a_place_goes_as_the_single_steps_say.Goals as goal

-- the owner of the second version is in hand beside the root
pub read_first-known-requires-clause-counted : goal.read_first-known-requires-clause-counted
read_first-known-requires-clause-counted g c =
    let hand : List Hold = SharedIn (shared_cell c.begin-w.result.root) ∷ SharedItem (shared_slot c.begin-w.result.second) ∷ [] in
    c.play-beside.ensures.counted hand c.begin-w.ensures.counted

-- the root alone has an owner in hand
pub read_present-present-requires-clause-root : goal.read_present-present-requires-clause-root
read_present-present-requires-clause-root g c =
    let hand : List Hold = SharedIn (shared_cell c.begin-w.result.root) ∷ [] in
    ([], c.play-beside-2.ensures.counted hand (c.hold_up-beside.ensures.counted hand c.read_first-known.ensures.counted))

pub end-requires-clause-counted : goal.end-requires-clause-counted
end-requires-clause-counted g c =
    let hand : List Hold = SharedIn (shared_cell c.begin-w.result.root) ∷ [] in
    let freed = c.play-beside-2.ensures.counted hand (c.hold_up-beside.ensures.counted hand c.read_first-known.ensures.counted) in
    c.read_present-present.ensures.counted hand freed
