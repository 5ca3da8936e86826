-- threads share what a session reads
use Rattle.std.specs.declared.cmp.Ord
use Rattle.std.specs.declared.cmp.PartialEq
use Rattle.std.specs.declared.cmp.PartialOrd
use denote.Param.Send.{IsSend, IsSync, sendable, view_sync}
use denote.Param.SendFields.{declared_sync}
use denote.RattleType.{RattleType}
use Rattle.std.proofs.Crossing.{crosses}
use Rattle.sdd_domain.proofs.guard.Guard.TheSendSync as guards
use Rattle.sdd_domain.proofs.pointer.Loaded.TheSendSync as loaded
use Rattle.shared_versions.proofs.SendLemmas.{node_sync}
use Rattle.shared_versions.specs.contracts.node.Node as node
use Rattle.shared_versions.specs.contracts.reader.Reader as reader
use Rattle.shared_versions.specs.contracts.reader.Reader.TheInside as reader_inside
use Rattle.shared_versions.specs.contracts.session.Session as session
use Rattle.shared_versions.specs.contracts.session.Session.TheInside as session_inside
use Rattle.shared_version_tests.proofs.nodes.are_shared.Goals as goal

module _ (K V S : RattleType) (g : Ord.Ghosts K.Denot) (g' : PartialEq.Ghosts K.Denot) (g'' : PartialOrd.Ghosts K.Denot) where
  reader_sync : IsSend K → IsSync K → IsSend V → IsSync V → IsSync (reader.the_row K V S g g' g'')
  reader_sync ks kt vs vt =
      let all = node_sync K V g g' g'' ks kt vs vt in
      let within : IsSync (reader_inside.the_row K V S g g' g'') = declared_sync (reader_inside.the_type K V S g g' g'') (loaded.the_sync (node.the_row K V g g' g'') all, tt) in
      view_sync (reader_inside.the_row K V S g g' g'') _ _ _ _ within

  session_sync : IsSend K → IsSync K → IsSend V → IsSync V → IsSync (session.the_row K V S g g' g'')
  session_sync ks kt vs vt =
      let within : IsSync (session_inside.the_row K V S g g' g'') = declared_sync (session_inside.the_type K V S g g' g'') (search (guards.the_sync, crosses, sendable) depth 10, (reader_sync ks kt vs vt, tt)) in
      view_sync (session_inside.the_row K V S g g' g'') _ _ _ _ within

pub is_sync-requires-2-sync-T : goal.is_sync-requires-2-sync-T
is_sync-requires-2-sync-T c κs = search (reader_sync, crosses, sendable) depth 5

pub is_sync-requires-3-sync-T : goal.is_sync-requires-3-sync-T
is_sync-requires-3-sync-T c κs = search (session_sync, crosses, sendable) depth 5
