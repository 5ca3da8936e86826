use Rattle.std.proofs.Common.{◌∙◌, sym, subst, ℕ}
use Rattle.sdd_world.specs.Tokens.{shared_cell}
use Rattle.sdd_lists.specs.Chain.{IsList, skip}
use Rattle.sdd_lists.proofs.ChainLemmas.{head_cell, kept_same, kept_tag}
use Rattle.sdd_lists.proofs.ListHeadLemmas.{skipped_first}
use Rattle.sdd_lists.proofs.NodeLemmas.{hung_node, hung_listed}
use Rattle.sdd_lists.proofs.world.linked_list.next_ptr.Goals as goal

pub load-requires-after_bounds : goal.load-requires-after_bounds
load-requires-after_bounds g c = λ _ _.
    let r = c.requires in
    let k = c.next_link-link.ensures r.entry r.rest r.is r.hung in
    head_cell g.L.LinkedList.link c.args.w.now (shared_cell c.cell.result.now) k.0 (skip r.rest) (subst (λ (d : ℕ). IsList g.L.LinkedList.link c.args.w.now d k.0 (skip r.rest)) (sym c.cell.ensures) k.1)

pub returns-clause-next : goal.returns-clause-next
returns-clause-next g c = λ e es n h.
    let k = c.next_link-link.ensures e es n h in
    let at = subst (λ (d : ℕ). IsList g.L.LinkedList.link c.args.w.now d k.0 (skip es)) (sym c.cell.ensures) k.1 in
    kept_same _ _ _ _ (sym c.load.ensures ∙ skipped_first g.L.LinkedList.link c.args.w.now (shared_cell c.cell.result.now) k.0 es at)

pub returns-clause-tag : goal.returns-clause-tag
returns-clause-tag g c = λ e es n h.
    let k = c.next_link-link.ensures e es n h in
    let at = subst (λ (d : ℕ). IsList g.L.LinkedList.link c.args.w.now d k.0 (skip es)) (sym c.cell.ensures) k.1 in
    kept_tag _ _ _ _ (sym c.load.ensures ∙ skipped_first g.L.LinkedList.link c.args.w.now (shared_cell c.cell.result.now) k.0 es at) ∙ k.2

pub returns-clause-node : goal.returns-clause-node
returns-clause-node g c =
    let r = c.requires in
    let k = c.next_link-link.ensures r.entry r.rest r.is r.hung in
    hung_node g.L.LinkedList.link c.args.w.now (shared_cell c.cell.result.now) k.0 _ (skip r.rest) (subst (λ (d : ℕ). IsList g.L.LinkedList.link c.args.w.now d k.0 (skip r.rest)) (sym c.cell.ensures) k.1) _ c.load.ensures

pub returns-clause-listed : goal.returns-clause-listed
returns-clause-listed g c =
    let r = c.requires in
    let k = c.next_link-link.ensures r.entry r.rest r.is r.hung in
    hung_listed g.L.LinkedList.link c.args.w.now (shared_cell c.cell.result.now) k.0 _ (skip r.rest) (subst (λ (d : ℕ). IsList g.L.LinkedList.link c.args.w.now d k.0 (skip r.rest)) (sym c.cell.ensures) k.1) _ c.load.ensures
