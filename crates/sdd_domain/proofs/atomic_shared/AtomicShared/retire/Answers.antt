use Rattle.sdd_domain.specs.Comparing.{owner_code}
use Rattle.sdd_domain.proofs.CellSteps.{exchanged_before}
use Rattle.sdd_domain.proofs.atomic_shared.AtomicShared.retire.Goals as goal

pub returns-in-Some-clause-taken : goal.returns-in-Some-clause-taken
returns-in-Some-clause-taken g c = let e = c.into_shared.ensures.taken in let k = owner_code c.into_shared.result in
    (e.0, k, exchanged_before c.args.self.cell e.0 k 0 0 c.args.local.now c.into_shared.new.local c.release.new.local e.1 c.release.ensures.cells)
