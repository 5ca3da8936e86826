use denote.Param.Send.{sendable}
use Rattle.shared_index.proofs.SendLemmas.{book_send}
use Rattle.shared_index_tests.proofs.sharing.book_is_handed_over.Goals as goal

pub is_send-requires-send-T : goal.is_send-requires-send-T
is_send-requires-send-T g c κs = search (book_send, sendable)
