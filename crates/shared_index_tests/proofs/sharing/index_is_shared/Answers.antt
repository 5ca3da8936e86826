use denote.Param.Send.{sendable}
use Rattle.shared_index.proofs.SendLemmas.{index_sync}
use Rattle.shared_index_tests.proofs.sharing.index_is_shared.Goals as goal

pub is_sync-requires-sync-T : goal.is_sync-requires-sync-T
is_sync-requires-sync-T g c κs out = search (index_sync, sendable)
