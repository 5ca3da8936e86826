use Rattle.std.proofs.Common.{◌∙◌, ap, ℕ}
use Rattle.sdd_world.specs.State.{cell_at}
use Rattle.sdd_lists.proofs.NodeLemmas.{node_cell}
use Rattle.sdd_lists.proofs.world.linked_list.tag_of.Goals as goal

pub tag-requires : goal.tag-requires
tag-requires g c = let r = c.requires in node_cell g.L.LinkedList.link c.args.w.now _ r.entry _ r.is (c.cell.ensures ∙ c.link_at.ensures r.entry r.is)

pub returns : goal.returns
returns g c = λ e n. c.tag.ensures n.next e.tag (ap (λ (j : ℕ). cell_at c.args.w.now j) (c.cell.ensures ∙ c.link_at.ensures e n) ∙ n.kept)
