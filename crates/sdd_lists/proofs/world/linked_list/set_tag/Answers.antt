use Rattle.std.proofs.Common.{◌∙◌}
use Rattle.sdd_lists.proofs.NodeLemmas.{node_cell, set_state, retags, retag_leaves}
use Rattle.sdd_lists.proofs.world.linked_list.set_tag.Goals as goal

pub swap-next-requires : goal.swap-next-requires
swap-next-requires g c = let r = c.requires in node_cell g.L.LinkedList.link c.args.w.now _ r.entry _ r.is (c.cell.ensures ∙ c.link_at-link.ensures r.entry r.is)

pub returns-clause-retags : goal.returns-clause-retags
returns-clause-retags g c = λ e n.
    let s = c.swap-next in
    let named = c.link_at-link.ensures e n in
    let now = set_state c.args.w.now s.new.w c.fill.new.w _ _ e.link n.next _ e.tag s.result.1 c.args.tag (c.cell.ensures ∙ named) (c.cell-2.ensures ∙ named) n.kept s.ensures.was s.ensures.now c.fill.ensures.filled in
    retags g.L.LinkedList.link c.args.w.now c.fill.new.w e c.args.tag _ n now

pub returns-clause-leaves : goal.returns-clause-leaves
returns-clause-leaves g c = λ e n.
    let s = c.swap-next in
    let named = c.link_at-link.ensures e n in
    let now = set_state c.args.w.now s.new.w c.fill.new.w _ _ e.link n.next _ e.tag s.result.1 c.args.tag (c.cell.ensures ∙ named) (c.cell-2.ensures ∙ named) n.kept s.ensures.was s.ensures.now c.fill.ensures.filled in
    retag_leaves g.L.LinkedList.link c.args.w.now c.fill.new.w e c.args.tag _ n now
