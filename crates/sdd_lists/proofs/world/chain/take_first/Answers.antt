use Rattle.sdd_world.specs.Tokens.{shared_cell}
use Rattle.sdd_lists.proofs.ChainLemmas.{head_cell, takes, took_linked, took_cell, took_back, took_all, took_none}
use Rattle.sdd_lists.proofs.world.chain.take_first.Goals as goal

pub take-requires : goal.take-requires
take-requires g c = head_cell g.L.LinkedList.link c.args.w.now (shared_cell c.args.cell.now) c.requires.tag c.requires.entries c.requires.is

pub returns-in_default-clause-took : goal.returns-in_default-clause-took
returns-in_default-clause-took g c = λ t es h. took_none g.L.LinkedList.link c.args.w.now c.take.new.w (shared_cell c.args.cell.now) t es h c.in_default.ensures.took

pub link_of-link-requires : goal.link_of-link-requires
link_of-link-requires g c =
    let k = takes g.L.LinkedList.link c.args.w.now c.take.new.w (shared_cell c.args.cell.now) c.in-Some.first.slot c.requires.tag c.requires.entries c.requires.is c.in-Some.ensures.took in
    took_linked g.L.LinkedList.link _ _ _ _ _ _ k

pub take-next-requires : goal.take-next-requires
take-next-requires g c =
    let k = takes g.L.LinkedList.link c.args.w.now c.take.new.w (shared_cell c.args.cell.now) c.in-Some.first.slot c.requires.tag c.requires.entries c.requires.is c.in-Some.ensures.took in
    took_cell g.L.LinkedList.link _ _ _ _ _ _ _ _ k c.link_of-link.ensures c.cell.ensures

pub fill-requires : goal.fill-requires
fill-requires g c =
    let k = takes g.L.LinkedList.link c.args.w.now c.take.new.w (shared_cell c.args.cell.now) c.in-Some.first.slot c.requires.tag c.requires.entries c.requires.is c.in-Some.ensures.took in
    (c.requires.tag, took_back g.L.LinkedList.link _ _ c.take-next.new.w _ _ _ _ _ _ _ k c.link_of-link.ensures c.cell.ensures c.take-next.ensures.took)

pub returns-clause-took : goal.returns-clause-took
returns-clause-took g c = λ t es h.
    let k = takes g.L.LinkedList.link c.args.w.now c.take.new.w (shared_cell c.args.cell.now) c.in-Some.first.slot t es h c.in-Some.ensures.took in
    took_all g.L.LinkedList.link _ _ c.take-next.new.w _ _ _ _ _ _ _ k c.link_of-link.ensures c.cell.ensures c.take-next.ensures.took c.fill.new.w c.fill.ensures.filled
