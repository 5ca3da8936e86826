use denote.Param.Send.{sendable}
use Rattle.shared_versions.proofs.SendLemmas.{present_send}
use Rattle.shared_version_tests.proofs.nodes.present_version_is_handed_over.Goals as goal

pub is_send-requires-send-T : goal.is_send-requires-send-T
is_send-requires-send-T c κs = search (present_send, sendable)
