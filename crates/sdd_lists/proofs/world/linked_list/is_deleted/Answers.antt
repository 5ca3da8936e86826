use Rattle.std.proofs.Common.{◌∙◌, ap}
use Rattle.sdd_lists.specs.Chain.{deleted}
use Rattle.sdd_lists.proofs.world.linked_list.is_deleted.Goals as goal

pub returns : goal.returns
returns g c = λ e n. c.is_deleted.ensures ∙ ap deleted (c.tag_of.ensures e n)
