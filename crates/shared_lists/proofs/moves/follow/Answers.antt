use Rattle.std.proofs.Common.{ℕ}
use Rattle.sdd_plain.specs.Epochs.{tag_number}
use Rattle.sdd_domain.specs.Comparing.{owner_code}
use Rattle.sdd_domain.proofs.CellSteps.{exchanged_before}
use Rattle.shared_lists.proofs.moves.follow.Goals as goal

pub returns-clause-put : goal.returns-clause-put
returns-clause-put g c = let e = c.swap-old in let t : ℕ = tag_number e.result.1 in let k : ℕ = owner_code e.result.0 in
    (t, k, exchanged_before c.args.link.now.cell t k 0 (owner_code c.args.next) c.args.local.now e.new.local c.let_go.new.local e.ensures.exchanged c.let_go.ensures.cells)
