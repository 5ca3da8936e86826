use Rattle.std.proofs.Common.{◌∙◌, ap, sym, subst, refl, Some, ℕ}
use Rattle.std.proofs.lemmas.Bool.{false≢true}
use Rattle.sdd_world.specs.State.{cell_at}
use Rattle.sdd_world.specs.Place.{IsSharedCell}
use Rattle.sdd_world.specs.Tokens.{ptr_slot, shared_cell, shared_slot}
use Rattle.sdd_world.specs.declared.tag.Tag.{Tag}
use Rattle.sdd_lists.specs.Chain.{deleted}
use Rattle.sdd_lists.specs.Nodes.{Inserts}
use Rattle.sdd_lists.proofs.ChainLemmas.{inside_cells, kept_same}
use Rattle.sdd_lists.proofs.NodeLemmas.{node_cell}
use Rattle.sdd_lists.proofs.InsertionLemmas.{hangs_behind, inserts, inserts_leaves, kept_behind, put_at, tag_same}
use Rattle.sdd_lists.proofs.world.linked_list.push_back.Goals as goal

pub tag-requires : goal.tag-requires
tag-requires g c = let r = c.requires in node_cell g.L.LinkedList.link c.args.w.now _ r.entry _ r.is (c.cell.ensures ∙ c.link_at-link.ensures r.entry r.is)

pub returns-then-is_deleted-clause-when : goal.returns-then-is_deleted-clause-when
returns-then-is_deleted-clause-when g c = λ e n.
    let t = c.tag.ensures n.next e.tag (ap (λ (j : ℕ). cell_at c.args.w.now j) (c.cell.ensures ∙ c.link_at-link.ensures e n) ∙ n.kept) in
    ((λ _. sym (ap deleted t) ∙ sym c.is_deleted.ensures ∙ c.if-is_deleted.true), (λ _. refl))

pub returns-clause-when : goal.returns-clause-when
returns-clause-when g c = λ e n.
    let t = c.tag.ensures n.next e.tag (ap (λ (j : ℕ). cell_at c.args.w.now j) (c.cell.ensures ∙ c.link_at-link.ensures e n) ∙ n.kept) in
    ((λ f. absurd (false≢true f)), (λ k. sym c.if-is_deleted.false ∙ c.is_deleted.ensures ∙ ap deleted t ∙ k))

pub put_first-requires : goal.put_first-requires
put_first-requires g c =
    let r = c.requires in
    let s = c.set_tag.ensures in
    hangs_behind g.L.LinkedList.link c.args.w.now c.set_tag.new.w c.set_tag.new.w r.entry r.new c.mark_of.result (ptr_slot c.args.at) r.is r.loose (s.retags r.entry r.is) (s.leaves r.entry r.is) r.apart.cell r.rest r.hung r.apart (shared_cell c.cell-2.result.now) (shared_slot c.args.entry) (c.cell-2.ensures ∙ c.link_at-link.ensures r.entry r.is) r.at

pub load-requires-after_bounds : goal.load-requires-after_bounds
load-requires-after_bounds g c κs = λ _.
    let r = c.requires in
    let s = c.set_tag.ensures in
    let named = c.link_at-link.ensures r.entry r.is in
    let put = put_at g.L.LinkedList.link c.set_tag.new.w c.put_first.new.w (shared_cell c.cell-2.result.now) (shared_slot c.args.entry) r.entry.link r.new (c.cell-2.ensures ∙ named) r.at c.put_first.ensures.put in
    let k = kept_behind g.L.LinkedList.link c.args.w.now c.set_tag.new.w c.put_first.new.w r.entry r.new c.mark_of.result (ptr_slot c.args.at) r.is r.loose (s.retags r.entry r.is) (s.leaves r.entry r.is) r.apart.cell put r.rest r.hung r.apart in
    subst (λ (j : ℕ). IsSharedCell c.put_first.new.w j) (sym (c.cell-3.ensures ∙ named)) (record { inside = inside_cells c.put_first.new.w.cells r.entry.link (Some r.new.slot) c.mark_of.result k; item = Some r.new.slot; tag = c.mark_of.result; is = k })

pub returns-clause-pointer : goal.returns-clause-pointer
returns-clause-pointer g c =
    let r = c.requires in
    let s = c.set_tag.ensures in
    let named = c.link_at-link.ensures r.entry r.is in
    let put = put_at g.L.LinkedList.link c.set_tag.new.w c.put_first.new.w (shared_cell c.cell-2.result.now) (shared_slot c.args.entry) r.entry.link r.new (c.cell-2.ensures ∙ named) r.at c.put_first.ensures.put in
    let k = kept_behind g.L.LinkedList.link c.args.w.now c.set_tag.new.w c.put_first.new.w r.entry r.new c.mark_of.result (ptr_slot c.args.at) r.is r.loose (s.retags r.entry r.is) (s.leaves r.entry r.is) r.apart.cell put r.rest r.hung r.apart in
    let kept = sym c.load.ensures ∙ ap (λ (j : ℕ). cell_at c.put_first.new.w j) (c.cell-3.ensures ∙ named) ∙ k in
    (kept_same _ _ _ _ kept ∙ ap (λ (j : ℕ). Some j) (sym r.at), tag_same _ _ _ _ kept ∙ c.mark_of.ensures)

pub returns-clause-pushed : goal.returns-clause-pushed
returns-clause-pushed g c = λ e x es n h k at a.
    let s = c.set_tag.ensures in
    let put = put_at g.L.LinkedList.link c.set_tag.new.w c.put_first.new.w (shared_cell c.cell-2.result.now) (shared_slot c.args.entry) e.link x (c.cell-2.ensures ∙ c.link_at-link.ensures e n) at c.put_first.ensures.put in
    subst (λ (u : Tag). Inserts g.L.LinkedList.link c.args.w.now c.put_first.new.w e u x) c.mark_of.ensures (inserts g.L.LinkedList.link c.args.w.now c.set_tag.new.w c.put_first.new.w e x c.mark_of.result (ptr_slot c.args.at) n k (s.retags e n) (s.leaves e n) a.cell put es h a)

pub returns-clause-leaves : goal.returns-clause-leaves
returns-clause-leaves g c = λ e x es n h k at a.
    let s = c.set_tag.ensures in
    let put = put_at g.L.LinkedList.link c.set_tag.new.w c.put_first.new.w (shared_cell c.cell-2.result.now) (shared_slot c.args.entry) e.link x (c.cell-2.ensures ∙ c.link_at-link.ensures e n) at c.put_first.ensures.put in
    inserts_leaves g.L.LinkedList.link c.args.w.now c.set_tag.new.w c.put_first.new.w e x c.mark_of.result (ptr_slot c.args.at) n k (s.retags e n) (s.leaves e n) a.cell put es h a
