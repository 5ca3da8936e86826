use Rattle.std.proofs.Common.{ℕ, Some, subst}
use Rattle.std.specs.Prelude.{IfNone}
use Rattle.sdd_plain.specs.Epochs.{tag_number}
use Rattle.sdd_domain.specs.CellSteps.{HasExchanged}
use Rattle.sdd_domain.specs.Comparing.{code_of, owner_code}
use Rattle.shared_containers.proofs.FillLemmas.{filled_last, none_then}
use Rattle.shared_containers.proofs.TakenLemmas.{read_some, some_then}
use Rattle.shared_containers.proofs.bag.fill.Goals as goal

pub returns-clause-put : goal.returns-clause-put
returns-clause-put g c = let a = c.args.local.now in let b = c.is_null.new.local in let d = c.exchange.new.local in let cell : ℕ = c.args.cell.now.cell in let owner = c.args.owner in let e = c.is_null.ensures.looked in let r = c.exchange.result in let code : ℕ = owner_code (Some owner) in
    let untagged = subst (λ t. IfNone r (HasExchanged b cell (tag_number t) (code_of c.null.result.slot) 0 code d)) c.null.ensures.tag c.exchange.ensures.put in
    let empty = subst (λ k. IfNone r (HasExchanged b cell 0 (code_of k) 0 code d)) c.null.ensures.slot untagged in
    none_then r (λ (put : HasExchanged b cell 0 0 0 code d). filled_last a b d cell owner c.is_null.ensures.same.0.0.0 (read_some a b cell e.0 e.1 e.2) put) empty

pub returns-clause-some : goal.returns-clause-some
returns-clause-some g c = let a = c.args.local.now in let b = c.is_null.new.local in let d = c.exchange.new.local in let e = c.is_null.ensures.looked in
    some_then a b d (read_some a b c.args.cell.now.cell e.0 e.1 e.2) c.exchange.ensures.some
