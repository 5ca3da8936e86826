use Rattle.index_tests.proofs.Tickets.{serves_new}
use Rattle.index_tests.proofs.scene.Scene.of.Goals as goal

-- neither the index nor the desk has a session yet
pub invariant_of-result : goal.invariant_of-result
invariant_of-result g c =
    record { serves = serves_new c.args.made.0 c.args.index c.desk_of-desk.result c.requires c.desk_of-desk.ensures }
