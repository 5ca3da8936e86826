-- threads share an index
use Rattle.std.specs.declared.clone.Clone
use Rattle.std.specs.declared.cmp.Eq
use Rattle.std.specs.declared.cmp.Ord
use Rattle.std.specs.declared.cmp.PartialEq
use Rattle.std.specs.declared.cmp.PartialOrd
use Rattle.std.specs.declared.sync.ledger.Ledger
use denote.Hole.{as_row}
use denote.Param.Send.{IsSend, IsSync, sendable, shr_sync, view_send, view_sync}
use denote.Param.SendFields.{as_row_sync, declared_send, declared_sync}
use denote.RattleType.{RattleType}
use denote.Ref.{NamedLft}
use denote.Struct.Field.{shr_ref_field}
use Rattle.std.proofs.Crossing.{crosses, send, sync}
use Rattle.std.proofs.sync.ledger.Book.TheSendSync as ledgers
use Rattle.serial_history.proofs.history.History.TheSendSync as histories
use Rattle.sdd_domain.specs.contracts.domain.Domain as domain
use Rattle.sdd_domain.specs.declared.holds.Holds
use Rattle.sdd_domain.proofs.atomic_shared.AtomicShared.TheSendSync as cells
use Rattle.sdd_domain.proofs.domain.Domain.TheSendSync as domains
use Rattle.sdd_domain.proofs.local.Local.TheSendSync as locals
use Rattle.shared_versions.specs.contracts.holding.NodeHolds.TheImpl as holding
use Rattle.shared_versions.specs.contracts.node.Node as node
use Rattle.shared_versions.proofs.SendLemmas.{node_send, node_sync, present_send}
use Rattle.shared_index.specs.contracts.book.Book as book
use Rattle.shared_index.specs.contracts.book.Book.TheInside as book_inside
use Rattle.shared_index.specs.contracts.index.SharedIndex as index
use Rattle.shared_index.specs.contracts.index.SharedIndex.TheInside as index_inside
use Rattle.shared_index.specs.declared.naming.Naming

-- a borrowed place
place_sync : (T : RattleType) (h : Holds.Ghosts T.Denot) (d : NamedLft) → IsSend T → IsSync T → IsSync (as_row (shr_ref_field d (domain.the_row T h) tt))
place_sync T h d some all = as_row_sync (shr_ref_field d (domain.the_row T h) tt) (shr_sync d.mir d.lft (domain.the_row T h) (domains.the_sync T h some all))

module _ (L K V S : RattleType) (n : Naming.Ghosts L.Denot) (l : Ledger.Ghosts L.Denot) (kc : Clone.Ghosts K.Denot) (ko : Ord.Ghosts K.Denot) (kp : PartialEq.Ghosts K.Denot) (kq : PartialOrd.Ghosts K.Denot) (vc : Clone.Ghosts V.Denot) (vp : PartialEq.Ghosts V.Denot) where
  pub book_send : IsSend K → IsSync K → IsSend V → IsSync V → IsSend (book.the_row L K V S n l kc ko kp kq vc vp)
  book_send ks kt vs vt =
      let row = node.the_row K V ko kp kq in
      let local = locals.the_send row (node_send K V ko kp kq ks kt vs vt) (node_sync K V ko kp kq ks kt vs vt) in
      let present = present_send K V ko kp kq S ks kt vs vt in
      let history = histories.the_send K V ko kp kq ks vs in
      let within : IsSend (book_inside.the_row L K V S n l kc ko kp kq vc vp) = declared_send (book_inside.the_type L K V S n l kc ko kp kq vc vp) (send, (local, (present, (history, (search (ledgers.the_send, crosses, sendable) depth 10, tt))))) in
      view_send (book_inside.the_row L K V S n l kc ko kp kq vc vp) _ _ _ _ within

  pub index_sync : (d : NamedLft) (ke : Eq.Ghosts K.Denot) → IsSend K → IsSync K → IsSend V → IsSync V → IsSync (index.the_row d L K V S n l kc ko ke kp kq vc vp)
  index_sync d ke ks kt vs vt =
      let some = node_send K V ko kp kq ks kt vs vt in
      let all = node_sync K V ko kp kq ks kt vs vt in
      let book = book_send ks kt vs vt in
      let within : IsSync (index_inside.the_row d L K V S n l kc ko ke kp kq vc vp) = declared_sync (index_inside.the_type d L K V S n l kc ko ke kp kq vc vp) (place_sync (node.the_row K V ko kp kq) (holding.ghosts K V ko holding.no_dict ke holding.no_dict kp holding.no_dict kq holding.no_dict holding.no_dict holding.no_dict) d some all, (search (cells.the_sync, all, sendable) depth 10, (search (book, crosses, sendable) depth 10, (search sendable depth 10, (sync, tt))))) in
      view_sync (index_inside.the_row d L K V S n l kc ko ke kp kq vc vp) _ _ _ _ within
