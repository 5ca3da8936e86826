use Rattle.std.proofs.Common.{◌∙◌, ap}
use Rattle.sdd_lists.specs.Nodes.{clear}
use Rattle.sdd_lists.proofs.world.linked_list.is_clear.Goals as goal

pub returns : goal.returns
returns g c = λ e n. c.is_clear_tag.ensures ∙ ap clear (c.tag_of.ensures e n)
