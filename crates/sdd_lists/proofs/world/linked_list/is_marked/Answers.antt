use Rattle.std.proofs.Common.{◌∙◌, ap}
use Rattle.sdd_lists.specs.Nodes.{marked}
use Rattle.sdd_lists.proofs.world.linked_list.is_marked.Goals as goal

pub returns : goal.returns
returns g c = λ e n. c.is_marked_tag.ensures ∙ ap marked (c.tag_of.ensures e n)
