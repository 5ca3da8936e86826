use Rattle.std.proofs.Common.{ℕ, Some, ap, ◌∙◌, subst}
use Rattle.sdd_plain.specs.Epochs.{tag_number}
use Rattle.sdd_domain.specs.CellSteps.{HasExchanged}
use Rattle.sdd_domain.specs.Comparing.{code_of, owner_code}
use Rattle.sdd_domain.proofs.CellSteps.{exchanged_before}
use Rattle.shared_lists.proofs.Pushes.{code_of_slot}
use Rattle.shared_containers.proofs.moves.exchange.Goals as goal

pub returns-in-Ok-clause-put : goal.returns-in-Ok-clause-put
returns-in-Ok-clause-put g c = let a = c.args.local.now in let b = c.compare_exchange.new.local in let cell : ℕ = c.args.cell.now.cell in let t : ℕ = tag_number c.args.found.tag in let code : ℕ = owner_code (Some c.args.owner) in
    exchanged_before cell t (code_of c.args.found.slot) 0 code a b c.let_go.new.local (subst (λ k. HasExchanged a cell t k 0 code b) (code_of_slot c.in-Ok.old ∙ ap code_of c.in-Ok.ensures.exact) c.in-Ok.ensures.exchanged) c.let_go.ensures.cells
