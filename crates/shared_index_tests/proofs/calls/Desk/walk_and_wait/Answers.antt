use Rattle.std.proofs.Crossing.{crosses}
use denote.Param.Send.{sendable}
use Rattle.shared_index.proofs.SendLemmas.{index_sync}
use Rattle.shared_index_tests.proofs.calls.Desk.walk_and_wait.Goals as goal

pub join_over-rest-requires-sync-T : goal.join_over-rest-requires-sync-T
join_over-rest-requires-sync-T g c κs within = search (index_sync, crosses, sendable) depth 12
