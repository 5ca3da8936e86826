use Rattle.std.proofs.Common.{◌∙◌, ap, sym}
use Rattle.sdd_lists.specs.Nodes.{marked}
use Rattle.sdd_lists.proofs.world.linked_list.unmark.Goals as goal

pub returns-then-not-is_marked_tag-clause-when : goal.returns-then-not-is_marked_tag-clause-when
returns-then-not-is_marked_tag-clause-when g c = λ e n. sym c.if-not-is_marked_tag.true ∙ c.is_marked_tag.ensures ∙ ap marked (c.tag_of.ensures e n)

pub returns-clause-when : goal.returns-clause-when
returns-clause-when g c = λ e n. sym c.if-not-is_marked_tag.false ∙ c.is_marked_tag.ensures ∙ ap marked (c.tag_of.ensures e n)
