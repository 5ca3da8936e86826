use Rattle.std.proofs.Common.{◌≡◌, ℕ, Some, sym, ◌∙◌, subst}
use Rattle.sdd_plain.specs.Epochs.{tag_number}
use Rattle.sdd_domain.specs.CellSteps.{HasExchanged}
use Rattle.sdd_domain.specs.Comparing.{owner_code, code_of}
use Rattle.shared_containers.proofs.PutLemmas.{some_code, null_code, other_code, put_made}
use Rattle.shared_containers.proofs.TakenLemmas.{quiet_some, differ}
use Rattle.shared_containers.proofs.stack.put_before.Goals as goal
use Rattle.shared_containers.proofs.stack.put_before.Goals.{then-is_some, else-is_some}

pub returns-in-None-clause-put : goal.returns-in-None-clause-put
returns-in-None-clause-put g c = let a = c.args.local.now in let b = c.get_shared-next.new.local in let d = c.follow.new.local in let e = c.exchange.new.local in
    let own : ℕ = c.args.link.now.cell in let cell : ℕ = c.args.cell.now.cell in let first = c.args.first in let owner = c.args.owner in let next = c.get_shared-next.result in let t : ℕ = tag_number first.tag in
    let same : owner_code next ≡ code_of first.slot = elim c.if-is_some.branch [
      | then-is_some w ↦ some_code next first.slot c.get_shared-next.ensures.exact w.if-is_some.ensures
      | else-is_some w ↦ null_code next first.slot c.get_shared-next.ensures.exact (w.is_null-is_there.ensures.0 (sym w.is_there-is ∙ c.if-not-is_there.false))
    ] in
    let other = other_code first.slot (owner_code next) owner same (λ h. differ c.slot.result (Some c.slot-2.result) c.if-eq.ensures (c.slot.ensures ∙ (h ∙ sym c.slot-2.ensures))) in
    let home_b = c.get_shared-next.ensures.same.0.0.0 in let home_d = c.follow.ensures.same.0.0.0 ∙ home_b in let put = c.follow.ensures.put in
    put_made a b d e own cell put.0 put.1 t (owner_code next) owner home_b home_d (quiet_some a b c.get_shared-next.ensures.cells) put.2 other (subst (λ k. HasExchanged d cell t k 0 (owner_code (Some owner)) e) (sym same) c.in-None.ensures.put)
