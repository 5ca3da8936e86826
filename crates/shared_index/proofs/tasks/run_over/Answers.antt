use Rattle.std.proofs.Crossing.{crosses}
use denote.Param.Send.{sendable}
use Rattle.shared_index.proofs.SendLemmas.{index_sync}
use Rattle.shared_index.proofs.tasks.run_over.Goals as goal

pub for_each_over-requires-sync-T : goal.for_each_over-requires-sync-T
for_each_over-requires-sync-T g c κs within = search (index_sync, crosses, sendable) depth 12
