use Rattle.std.proofs.Common.{◌∙◌, ◌+◌, sym, subst, ℕ, arith}
use Rattle.sdd_world.specs.State.{State}
use Rattle.sdd_world.specs.Tokens.{shared_cell, shared_slot}
use Rattle.sdd_lists.specs.Chain.{IsList, skip}
use Rattle.sdd_lists.proofs.ChainLemmas.{head_cell, kept_same, inside_states}
use Rattle.sdd_lists.proofs.ReleaseLemmas.{hung_owners, added_back}
use Rattle.sdd_lists.proofs.ListHeadLemmas.{skipped_first}
use Rattle.sdd_lists.proofs.FirstLemmas.{none_more}
use Rattle.sdd_lists.proofs.ShareLemmas.{hung_owned}
use Rattle.sdd_lists.proofs.world.linked_list.next_shared.Goals as goal

pub get_shared-requires : goal.get_shared-requires
get_shared-requires g c =
    let r = c.requires in
    let k = c.next_link-link.ensures r.entry r.rest r.is r.hung in
    head_cell g.L.LinkedList.link c.args.w.now (shared_cell c.cell.result.now) k.0 (skip r.rest) (subst (λ (d : ℕ). IsList g.L.LinkedList.link c.args.w.now d k.0 (skip r.rest)) (sym c.cell.ensures) k.1)

pub returns-in-Some-clause-next : goal.returns-in-Some-clause-next
returns-in-Some-clause-next g c = λ e es n h.
    let k = c.next_link-link.ensures e es n h in
    let at = subst (λ (d : ℕ). IsList g.L.LinkedList.link c.args.w.now d k.0 (skip es)) (sym c.cell.ensures) k.1 in
    kept_same _ _ _ _ (sym c.in-Some.ensures.more.1 ∙ skipped_first g.L.LinkedList.link c.args.w.now (shared_cell c.cell.result.now) k.0 es at)

pub returns-in-Some-clause-lists : goal.returns-in-Some-clause-lists
returns-in-Some-clause-lists g c = λ at t es h.
    let m = c.in-Some.ensures.more in
    subst (λ (w : State _). IsList g.L.LinkedList.link w at t es) (sym m.2.2) (hung_owners g.L.LinkedList.link (shared_slot c.in-Some.next) (m.2.0 + 1) at t es c.args.w.now (omega arith) (inside_states c.args.w.now.states (shared_slot c.in-Some.next) m.2.0 m.2.1) h)

pub returns-clause-none : goal.returns-clause-none
returns-clause-none g c = (
  c.in-None.ensures.none.0,
  λ e es n h.
      let k = c.next_link-link.ensures e es n h in
      let at = subst (λ (d : ℕ). IsList g.L.LinkedList.link c.args.w.now d k.0 (skip es)) (sym c.cell.ensures) k.1 in
      none_more c.args.w.now (shared_cell c.cell.result.now) k.0 _ (skipped_first g.L.LinkedList.link c.args.w.now (shared_cell c.cell.result.now) k.0 es at) (λ i n t kept. c.in-None.ensures.none.1 i t kept n),
)

pub returns-in-Some-clause-spare : goal.returns-in-Some-clause-spare
returns-in-Some-clause-spare g c = λ p.
    let r = c.requires in
    let k = c.next_link-link.ensures r.entry r.rest r.is r.hung in
    let m = c.in-Some.ensures.more in
    let at = subst (λ (d : ℕ). IsList g.L.LinkedList.link c.args.w.now d k.0 (skip r.rest)) (sym c.cell.ensures) k.1 in
    let some = hung_owned g.L.LinkedList.link c.args.w.now (shared_cell c.cell.result.now) (shared_slot c.in-Some.next) m.2.0 k.0 m.0 (skip r.rest) at m.1 m.2.1 in
    added_back p (shared_slot c.in-Some.next) m.2.0 c.args.w.now c.get_shared.new.w m.2.1 some m.2.2
