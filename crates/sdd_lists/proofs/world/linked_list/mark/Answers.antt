use Rattle.std.proofs.Common.{◌∙◌, ap, sym}
use Rattle.sdd_lists.specs.Nodes.{clear}
use Rattle.sdd_lists.proofs.world.linked_list.mark.Goals as goal

pub returns-then-not-is_clear_tag-clause-when : goal.returns-then-not-is_clear_tag-clause-when
returns-then-not-is_clear_tag-clause-when g c = λ e n. sym c.if-not-is_clear_tag.true ∙ c.is_clear_tag.ensures ∙ ap clear (c.tag_of.ensures e n)

pub returns-clause-when : goal.returns-clause-when
returns-clause-when g c = λ e n. sym c.if-not-is_clear_tag.false ∙ c.is_clear_tag.ensures ∙ ap clear (c.tag_of.ensures e n)
