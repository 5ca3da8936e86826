use Rattle.sdd_world.specs.Tokens.{shared_cell}
use Rattle.sdd_lists.proofs.ChainLemmas.{head_cell, put_link, put_back, put_all}
use Rattle.sdd_lists.proofs.world.chain.put_first.Goals as goal

pub take-next-requires : goal.take-next-requires
take-next-requires g c = head_cell g.L.LinkedList.link c.args.w.now (shared_cell c.args.cell.now) c.requires.tag c.requires.entries c.requires.hung

pub fill-requires : goal.fill-requires
fill-requires g c = let k = c.requires in (k.entry.tag, put_link g.L.LinkedList.link _ _ _ _ _ _ _ _ _ _ k.hung k.loose k.fits k.at c.link_of-link.ensures c.cell.ensures c.take-next.ensures.took)

pub fill-requires-2 : goal.fill-requires-2
fill-requires-2 g c = let k = c.requires in (k.tag, put_back g.L.LinkedList.link _ _ _ _ _ _ _ _ _ _ k.hung k.loose k.fits k.at c.link_of-link.ensures c.cell.ensures c.take-next.ensures.took _ c.fill.ensures.filled)

pub returns-clause-put : goal.returns-clause-put
returns-clause-put g c = λ t es e h k f at. put_all g.L.LinkedList.link _ _ _ _ _ _ _ _ _ _ h k f at c.link_of-link.ensures c.cell.ensures c.take-next.ensures.took _ c.fill.ensures.filled _ c.fill-2.ensures.filled
