use Rattle.std.proofs.Common.{sym, subst}
use Rattle.sdd_domain.specs.CellSteps.{HasExchanged}
use Rattle.sdd_domain.specs.Comparing.{owner_code}
use Rattle.shared_owned.proofs.atomic_owned.AtomicOwned.into_owned.Goals as goal

pub returns-clause-taken : goal.returns-clause-taken
returns-clause-taken g c = let e = c.into_shared.ensures.taken in (e.0, subst (λ o. HasExchanged c.args.local.now c.args.self.cell.cell e.0 (owner_code o) 0 0 c.into_shared.new.local) (sym c.alone.ensures) e.1)
