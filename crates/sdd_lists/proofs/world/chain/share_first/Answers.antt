use Rattle.std.proofs.Common.{◌∙◌, ◌+◌, ap, sym, subst, ℕ, arith}
use Rattle.sdd_world.specs.State.{status_at, with_status}
use Rattle.sdd_world.specs.Tokens.{shared_cell}
use Rattle.sdd_world.specs.declared.status.Status.TheVariants as status
use Rattle.sdd_lists.specs.Chain.{OneMore}
use Rattle.sdd_lists.proofs.ChainLemmas.{stays_then}
use Rattle.sdd_lists.proofs.ReleaseLemmas.{stays_owners}
use Rattle.sdd_lists.proofs.ListHeadLemmas.{took_some}
use Rattle.sdd_lists.proofs.ShareLemmas.{off_same, off_more, can_return, shared_hung, shared_leaves, shared_owners, one_more, owners_same, owners_more, owners_none}
use Rattle.sdd_lists.proofs.world.chain.share_first.Goals as goal

pub put_first-requires : goal.put_first-requires
put_first-requires g c =
    let at = shared_cell c.args.cell.now in
    let r = c.requires in
    let k = took_some g.L.LinkedList.link c.args.w.now c.take_first.new.w at c.in-Some.first.slot r.tag r.entries r.is (c.in-Some.ensures.took r.tag r.entries r.is) in
    let o = off_same g.L.LinkedList.link c.args.w.now c.take_first.new.w c.clone.new.w at c.in-Some.first.slot r.tag r.entries r.is k c.in-None.ensures.full.0 in
    can_return g.L.LinkedList.link c.args.w.now c.take_first.new.w c.clone.new.w at c.in-Some.first.slot r.tag r.entries r.is k o

pub put_first-requires-in-Some-clone : goal.put_first-requires-in-Some-clone
put_first-requires-in-Some-clone g c =
    let at = shared_cell c.args.cell.now in
    let r = c.requires in
    let k = took_some g.L.LinkedList.link c.args.w.now c.take_first.new.w at c.in-Some.first.slot r.tag r.entries r.is (c.in-Some.ensures.took r.tag r.entries r.is) in
    let m = c.in-Some-clone.ensures.more in
    let o = off_more g.L.LinkedList.link c.args.w.now c.take_first.new.w c.clone.new.w at c.in-Some.first.slot r.tag r.entries r.is k m.1.0 (m.1.0 + 1) (omega arith) (ap (λ (j : ℕ). status_at c.take_first.new.w j) (sym m.0) ∙ m.1.1) (m.1.2 ∙ ap (λ (j : ℕ). with_status j (status.Shared (m.1.0 + 1)) c.take_first.new.w) m.0) in
    can_return g.L.LinkedList.link c.args.w.now c.take_first.new.w c.clone.new.w at c.in-Some.first.slot r.tag r.entries r.is k o

pub returns-in-None-clause-hung : goal.returns-in-None-clause-hung
returns-in-None-clause-hung g c = λ t es h.
    let at = shared_cell c.args.cell.now in
    let k = took_some g.L.LinkedList.link c.args.w.now c.take_first.new.w at c.in-Some.first.slot t es h (c.in-Some.ensures.took t es h) in
    let o = off_same g.L.LinkedList.link c.args.w.now c.take_first.new.w c.clone.new.w at c.in-Some.first.slot t es h k c.in-None.ensures.full.0 in
    shared_hung g.L.LinkedList.link c.args.w.now c.take_first.new.w c.clone.new.w at c.in-Some.first.slot t es h k c.put_first.new.w o c.put_first.ensures.put

pub returns-in-None-clause-leaves : goal.returns-in-None-clause-leaves
returns-in-None-clause-leaves g c = λ t es h.
    let at = shared_cell c.args.cell.now in
    let k = took_some g.L.LinkedList.link c.args.w.now c.take_first.new.w at c.in-Some.first.slot t es h (c.in-Some.ensures.took t es h) in
    let o = off_same g.L.LinkedList.link c.args.w.now c.take_first.new.w c.clone.new.w at c.in-Some.first.slot t es h k c.in-None.ensures.full.0 in
    shared_leaves g.L.LinkedList.link c.args.w.now c.take_first.new.w c.clone.new.w at c.in-Some.first.slot t es h k c.put_first.new.w o c.put_first.ensures.put

pub returns-in-Some-clone-clause-hung : goal.returns-in-Some-clone-clause-hung
returns-in-Some-clone-clause-hung g c = λ t es h.
    let at = shared_cell c.args.cell.now in
    let k = took_some g.L.LinkedList.link c.args.w.now c.take_first.new.w at c.in-Some.first.slot t es h (c.in-Some.ensures.took t es h) in
    let m = c.in-Some-clone.ensures.more in
    let o = off_more g.L.LinkedList.link c.args.w.now c.take_first.new.w c.clone.new.w at c.in-Some.first.slot t es h k m.1.0 (m.1.0 + 1) (omega arith) (ap (λ (j : ℕ). status_at c.take_first.new.w j) (sym m.0) ∙ m.1.1) (m.1.2 ∙ ap (λ (j : ℕ). with_status j (status.Shared (m.1.0 + 1)) c.take_first.new.w) m.0) in
    shared_hung g.L.LinkedList.link c.args.w.now c.take_first.new.w c.clone.new.w at c.in-Some.first.slot t es h k c.put_first-in-Some-clone.new.w o c.put_first-in-Some-clone.ensures.put

pub returns-in-Some-clone-clause-leaves : goal.returns-in-Some-clone-clause-leaves
returns-in-Some-clone-clause-leaves g c = λ t es h.
    let at = shared_cell c.args.cell.now in
    let k = took_some g.L.LinkedList.link c.args.w.now c.take_first.new.w at c.in-Some.first.slot t es h (c.in-Some.ensures.took t es h) in
    let m = c.in-Some-clone.ensures.more in
    let o = off_more g.L.LinkedList.link c.args.w.now c.take_first.new.w c.clone.new.w at c.in-Some.first.slot t es h k m.1.0 (m.1.0 + 1) (omega arith) (ap (λ (j : ℕ). status_at c.take_first.new.w j) (sym m.0) ∙ m.1.1) (m.1.2 ∙ ap (λ (j : ℕ). with_status j (status.Shared (m.1.0 + 1)) c.take_first.new.w) m.0) in
    shared_leaves g.L.LinkedList.link c.args.w.now c.take_first.new.w c.clone.new.w at c.in-Some.first.slot t es h k c.put_first-in-Some-clone.new.w o c.put_first-in-Some-clone.ensures.put

pub returns-in-Some-clone-clause-stays : goal.returns-in-Some-clone-clause-stays
returns-in-Some-clone-clause-stays g c =
    let m = c.in-Some-clone.ensures in
    stays_then _ _ _ (stays_then _ _ _ c.in-Some.ensures.stays (stays_owners _ _ _ (m.more.1.0 + 1) m.more.1.2 m.keeps)) c.put_first-in-Some-clone.ensures.stays

pub returns-in_default-clause-owners : goal.returns-in_default-clause-owners
returns-in_default-clause-owners g c = let r = c.requires in owners_none g.L.LinkedList.link c.args.w.now c.take_first.new.w (shared_cell c.args.cell.now) r.tag r.entries (c.in_default.ensures.took r.tag r.entries r.is)

pub returns-in-None-clause-owners : goal.returns-in-None-clause-owners
returns-in-None-clause-owners g c =
    let at = shared_cell c.args.cell.now in
    let r = c.requires in
    let k = took_some g.L.LinkedList.link c.args.w.now c.take_first.new.w at c.in-Some.first.slot r.tag r.entries r.is (c.in-Some.ensures.took r.tag r.entries r.is) in
    let o = off_same g.L.LinkedList.link c.args.w.now c.take_first.new.w c.clone.new.w at c.in-Some.first.slot r.tag r.entries r.is k c.in-None.ensures.full.0 in
    shared_owners g.L.LinkedList.link c.args.w.now c.take_first.new.w c.clone.new.w at c.in-Some.first.slot r.tag r.entries r.is k c.put_first.new.w o c.put_first.ensures.put (owners_same c.take_first.new.w c.clone.new.w c.in-None.ensures.full.0)

pub returns-in-Some-clone-clause-owners : goal.returns-in-Some-clone-clause-owners
returns-in-Some-clone-clause-owners g c =
    let at = shared_cell c.args.cell.now in
    let r = c.requires in
    let k = took_some g.L.LinkedList.link c.args.w.now c.take_first.new.w at c.in-Some.first.slot r.tag r.entries r.is (c.in-Some.ensures.took r.tag r.entries r.is) in
    let m = c.in-Some-clone.ensures.more in
    let is = ap (λ (j : ℕ). status_at c.take_first.new.w j) (sym m.0) ∙ m.1.1 in
    let now = m.1.2 ∙ ap (λ (j : ℕ). with_status j (status.Shared (m.1.0 + 1)) c.take_first.new.w) m.0 in
    let o = off_more g.L.LinkedList.link c.args.w.now c.take_first.new.w c.clone.new.w at c.in-Some.first.slot r.tag r.entries r.is k m.1.0 (m.1.0 + 1) (omega arith) is now in
    shared_owners g.L.LinkedList.link c.args.w.now c.take_first.new.w c.clone.new.w at c.in-Some.first.slot r.tag r.entries r.is k c.put_first-in-Some-clone.new.w o c.put_first-in-Some-clone.ensures.put (owners_more c.take_first.new.w c.clone.new.w c.in-Some.first.slot m.1.0 is now)

pub returns-in-Some-clone-clause-more : goal.returns-in-Some-clone-clause-more
returns-in-Some-clone-clause-more g c =
    let at = shared_cell c.args.cell.now in
    let r = c.requires in
    let k = took_some g.L.LinkedList.link c.args.w.now c.take_first.new.w at c.in-Some.first.slot r.tag r.entries r.is (c.in-Some.ensures.took r.tag r.entries r.is) in
    let m = c.in-Some-clone.ensures.more in
    let is = ap (λ (j : ℕ). status_at c.take_first.new.w j) (sym m.0) ∙ m.1.1 in
    let now = m.1.2 ∙ ap (λ (j : ℕ). with_status j (status.Shared (m.1.0 + 1)) c.take_first.new.w) m.0 in
    let o = off_more g.L.LinkedList.link c.args.w.now c.take_first.new.w c.clone.new.w at c.in-Some.first.slot r.tag r.entries r.is k m.1.0 (m.1.0 + 1) (omega arith) is now in
    subst (λ (j : ℕ). OneMore c.args.w.now c.put_first-in-Some-clone.new.w j) (sym m.0) (one_more g.L.LinkedList.link c.args.w.now c.take_first.new.w c.clone.new.w at c.in-Some.first.slot r.tag r.entries r.is k c.put_first-in-Some-clone.new.w o c.put_first-in-Some-clone.ensures.put m.1.0 is now)
