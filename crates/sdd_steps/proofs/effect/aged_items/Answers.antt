use Rattle.std.proofs.Common.{ap, ◌∙◌, arith}
use Rattle.sdd_steps.specs.declared.item.Item.{Item}
use Rattle.sdd_steps.specs.State.{no_item}
use Rattle.sdd_steps.proofs.ListLemmas.{read_at}
use Rattle.sdd_steps.proofs.effect.aged_items.Goals as goal

-- the item read is one that may age
pub aged-copy-requires : goal.aged-copy-requires
aged-copy-requires c = λ a e. c.requires c.loop-item.item-index a (ap (λ (z : Item). z.state) (read_at c.args.items.now c.loop-item.item-index no_item c.item-item.result (omega arith) c.item-item.is) ∙ e)
