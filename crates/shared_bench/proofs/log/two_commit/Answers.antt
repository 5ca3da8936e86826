use Rattle.std.proofs.Crossing.{crosses}
use denote.Param.Send.{sendable}
use Rattle.shared_index.proofs.SendLemmas.{index_sync}
use Rattle.shared_bench.proofs.log.two_commit.Goals as goal

pub join_over-one-requires-sync-T : goal.join_over-one-requires-sync-T
join_over-one-requires-sync-T g c κs within = search (index_sync, crosses, sendable) depth 12
