use Rattle.std.proofs.Common.{◌+◌}
use Rattle.sdd_plain.specs.Epochs.{tag_number}
use Rattle.sdd_domain.specs.Comparing.{owner_code}
use Rattle.sdd_domain.specs.Tokens.{own_of}
use Rattle.sdd_domain.proofs.CellSteps.{exchanged_before}
use Rattle.sdd_domain.proofs.atomic_shared.AtomicShared.put.Goals as goal

-- the cell had no owner to release
pub returns-in_default-clause-own : goal.returns-in_default-clause-own
returns-in_default-clause-own g c = ((own_of c.args.local.now).garbage, c.swap.ensures.same.1)

pub returns-in-Some-default-clause-put : goal.returns-in-Some-default-clause-put
returns-in-Some-default-clause-put g c = let t = tag_number c.swap.result.1 in let k = owner_code c.swap.result.0 in
    (t, k, exchanged_before c.args.self.now.cell t k 0 (c.args.owner.slot + 1) c.args.local.now c.swap.new.local c.release.new.local c.swap.ensures.exchanged c.release.ensures.cells)
