use Rattle.std.proofs.Common.{◌+◌, ◌∙◌, inr}
use Rattle.sdd_domain.proofs.CellSteps.{exchanged_behind}
use Rattle.sdd_domain.proofs.atomic_shared.AtomicShared.new.Goals as goal

pub returns-in-Ok-new-clause-put : goal.returns-in-Ok-new-clause-put
returns-in-Ok-new-clause-put g c = let e = c.put.ensures.put in let slot = c.in-Ok-new.owner.slot in
    (e.0, e.1, slot, exchanged_behind c.in-Ok.cell.cell e.0 e.1 0 (slot + 1) c.args.local.now c.new.new.local c.put.new.local (c.new.ensures.same.0 ∙ c.null.ensures.same.0.0.0) (c.new.ensures.cells ∙ c.null.ensures.cells) e.2)

pub returns-in-Err-clause-cells : goal.returns-in-Err-clause-cells
returns-in-Err-clause-cells g c = let e = c.retire.ensures.taken in let cell = c.in-Ok.cell.cell in
    inr (cell, e.0, e.1, exchanged_behind cell e.0 e.1 0 0 c.args.local.now c.new.new.local c.retire.new.local (c.new.ensures.same.0 ∙ c.null.ensures.same.0.0.0) (c.new.ensures.cells ∙ c.null.ensures.cells) e.2)
