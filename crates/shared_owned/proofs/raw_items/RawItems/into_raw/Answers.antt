use Rattle.std.proofs.Common.{◌≡◌, ℕ, Some, ap, sym, subst, arith}
use Rattle.sdd_plain.specs.Epochs.{tag_number}
use Rattle.sdd_domain.specs.Comparing.{owner_code}
use Rattle.sdd_domain.specs.CellSteps.{HasExchanged}
use Rattle.sdd_domain.proofs.CellSteps.{exchanged_before}
use Rattle.shared_owned.specs.Raw.{IsRawCell}
use Rattle.shared_owned.proofs.raw_items.RawItems.into_raw.Goals as goal

pub returns-clause-put : goal.returns-clause-put
returns-clause-put g c = let cell : ℕ = c.in-Some.cell.now.cell in let a = c.args.local.now in let b = c.swap-old.new.local in let d = c.let_go.new.local in let t : ℕ = tag_number c.swap-old.result.1 in let k : ℕ = owner_code c.swap-old.result.0 in let at = c.slot-at.ensures in
    let same : c.slot-at.result ≡ c.args.owned.owner.slot = cc in
    let put = subst (λ s. HasExchanged a cell t k 0 (owner_code (Some s)) b) c.into_shared.ensures c.swap-old.ensures.exchanged in
    (cell, t, k, subst (λ i. IsRawCell c.args.self.now i cell) same c.in-Some.ensures.cell, exchanged_before cell t k 0 (owner_code (Some c.args.owned.owner)) a b d put c.let_go.ensures.cells)
