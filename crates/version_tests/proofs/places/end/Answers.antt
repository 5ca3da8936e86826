use Rattle.std.proofs.Common.{List, [], ◌∷◌}
use Rattle.sdd_world.specs.Holding.{Hold, SharedItem}
use Rattle.sdd_world.specs.Tokens.{shared_slot}
use Rattle.version_tests.proofs.Settled.{given_back, in_hand}
use Rattle.version_tests.proofs.places.end.Goals as goal

pub release-requires-clause-live : goal.release-requires-clause-live
release-requires-clause-live g c = in_hand (shared_slot c.args.held.root) (SharedItem (shared_slot c.args.held.none) ∷ []) c.args.held.w c.requires.counted

pub release-requires-2-clause-live : goal.release-requires-2-clause-live
release-requires-2-clause-live g c =
    let none = shared_slot c.args.held.none in
    let hand : List Hold = SharedItem none ∷ [] in
    in_hand none [] c.release.new.w (given_back 0 (shared_slot c.args.held.root) hand c.args.held.w c.release.new.w c.requires.counted c.release.ensures.released)
