-- who may have a node, an owner of one, and the present version
use Rattle.std.specs.declared.cmp.Ord
use Rattle.std.specs.declared.cmp.PartialEq
use Rattle.std.specs.declared.cmp.PartialOrd
use denote.Param.Send.{IsSend, IsSync, sendable, view_send}
use denote.Param.SendFields.{declared_send}
use denote.RattleType.{RattleType}
use Rattle.std.proofs.Crossing.{Vec-send, crosses}
use Rattle.std.specs.contracts.option.Option as option
use Rattle.std.proofs.option.Option.TheSendSync as options
use Rattle.sdd_domain.specs.contracts.shared.Shared as shared
use Rattle.sdd_domain.proofs.held.Held.TheSendSync as held
use Rattle.sdd_domain.proofs.shared.Shared.TheSendSync as owners
use Rattle.version_views.proofs.directory.Directory.TheSendSync as directory
use Rattle.version_views.proofs.row.Row.TheSendSync as rows
use Rattle.version_views.proofs.segment.Segment.TheSendSync as segment
use Rattle.shared_versions.specs.contracts.node.Node as node
use Rattle.shared_versions.specs.contracts.present.Present as present
use Rattle.shared_versions.specs.contracts.present.Present.TheInside as inside
use Rattle.shared_versions.proofs.node.Rest.TheLaws.TheKnot as knot

module _ (K V : RattleType) (g : Ord.Ghosts K.Denot) (g' : PartialEq.Ghosts K.Denot) (g'' : PartialOrd.Ghosts K.Denot) where
  pub node_send : IsSend K → IsSync K → IsSend V → IsSync V → IsSend (node.the_row K V g g' g'')
  node_send keys keys' values values' = search (knot.crosses, held.the_send, held.the_sync, directory.the_send, directory.the_sync, rows.the_send, rows.the_sync, segment.the_send, segment.the_sync, crosses, sendable) depth 20

  pub node_sync : IsSend K → IsSync K → IsSend V → IsSync V → IsSync (node.the_row K V g g' g'')
  node_sync keys keys' values values' = search (knot.crosses, held.the_sync, directory.the_sync, rows.the_sync, segment.the_send, segment.the_sync, crosses, sendable) depth 20

  pub owner_send : IsSend K → IsSync K → IsSend V → IsSync V → IsSend (shared.the_row (node.the_row K V g g' g''))
  owner_send keys keys' values values' = owners.the_send (node.the_row K V g g' g'') (node_sync keys keys' values values')

  pub present_send : (S : RattleType) → IsSend K → IsSync K → IsSend V → IsSync V → IsSend (present.the_row K V S g g' g'')
  present_send S keys keys' values values' =
      let row = shared.the_row (node.the_row K V g g' g'') in
      let owner = owner_send keys keys' values values' in
      let kept = Vec-send (option.the_row row) (options.the_send row owner) in
      let within : IsSend (inside.the_row K V S g g' g'') = declared_send (inside.the_type K V S g g' g'') (owner, (kept, tt)) in
      view_send (inside.the_row K V S g g' g'') _ _ _ _ within
