use Rattle.std.proofs.Common.{◌∙◌, ap, sym, not}
use Rattle.sdd_lists.specs.Chain.{deleted}
use Rattle.sdd_lists.proofs.world.linked_list.delete_self.Goals as goal

pub returns-then-is_deleted-clause-when : goal.returns-then-is_deleted-clause-when
returns-then-is_deleted-clause-when g c = λ e n. ap not (sym c.if-is_deleted.true ∙ c.is_deleted.ensures ∙ ap deleted (c.tag_of.ensures e n))

pub returns-clause-when : goal.returns-clause-when
returns-clause-when g c = λ e n. ap not (sym c.if-is_deleted.false ∙ c.is_deleted.ensures ∙ ap deleted (c.tag_of.ensures e n))
