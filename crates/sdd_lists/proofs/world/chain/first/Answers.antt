use Rattle.std.proofs.Common.{refl}
use Rattle.sdd_world.specs.Tokens.{shared_cell}
use Rattle.sdd_lists.proofs.ChainLemmas.{head_cell, hung_there, starts, starts_not, starts_link, starts_cell, begins}
use Rattle.sdd_lists.proofs.world.chain.first.Goals as goal

pub as_ref-requires-clause-cell : goal.as_ref-requires-clause-cell
as_ref-requires-clause-cell g c = head_cell g.L.LinkedList.link c.args.w.now (shared_cell c.args.cell.now) c.requires.tag c.requires.entries c.requires.is

pub as_ref-requires-clause-there : goal.as_ref-requires-clause-there
as_ref-requires-clause-there g c = hung_there g.L.LinkedList.link c.args.w.now (shared_cell c.args.cell.now) c.requires.tag c.requires.entries c.requires.is

pub returns-in_default-clause-none : goal.returns-in_default-clause-none
returns-in_default-clause-none g c = λ t es h. starts_not g.L.LinkedList.link c.args.w.now (shared_cell c.args.cell.now) t es h c.in_default.ensures.item

pub link_ref-link-requires : goal.link_ref-link-requires
link_ref-link-requires g c =
    let k = starts g.L.LinkedList.link _ c.args.w.now (shared_cell c.args.cell.now) c.requires.tag c.requires.entries c.in-Some.item.now c.requires.is c.in-Some.ensures.null c.in-Some.ensures.value in
    rw (starts_link g.L.LinkedList.link _ _ _ _ _ k) refl

pub tag-requires : goal.tag-requires
tag-requires g c =
    let k = starts g.L.LinkedList.link _ c.args.w.now (shared_cell c.args.cell.now) c.requires.tag c.requires.entries c.in-Some.item.now c.requires.is c.in-Some.ensures.null c.in-Some.ensures.value in
    starts_cell g.L.LinkedList.link _ _ _ _ _ _ k c.link_ref-link.ensures

pub returns-clause-some : goal.returns-clause-some
returns-clause-some g c = λ t es h.
    let k = starts g.L.LinkedList.link _ c.args.w.now (shared_cell c.args.cell.now) t es c.in-Some.item.now h c.in-Some.ensures.null c.in-Some.ensures.value in
    begins g.L.LinkedList.link _ _ _ _ _ _ _ _ k c.link_ref-link.ensures c.tag.ensures c.is_deleted-deleted.ensures
