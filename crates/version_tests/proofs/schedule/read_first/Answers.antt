use Rattle.std.proofs.Common.{List, [], ◌∷◌}
use Rattle.sdd_world.specs.Holding.{Hold, SharedItem}
use Rattle.sdd_world.specs.Tokens.{shared_slot}
use Rattle.version_tests.proofs.schedule.read_first.Goals as goal

-- the owner of the second version is in hand beside the root
pub begin_reading-first-requires-clause-root : goal.begin_reading-first-requires-clause-root
begin_reading-first-requires-clause-root g c =
    let rest : List Hold = SharedItem (shared_slot c.args.second) ∷ [] in
    (rest, c.requires.counted)
