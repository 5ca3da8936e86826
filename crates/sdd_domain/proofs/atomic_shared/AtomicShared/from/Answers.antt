use Rattle.std.proofs.Common.{◌+◌, ◌∙◌, ap}
use Rattle.sdd_plain.specs.declared.local_state.LocalState.{LocalState}
use Rattle.sdd_domain.specs.Tokens.{own_of}
use Rattle.sdd_domain.proofs.CellSteps.{exchanged_behind}
use Rattle.sdd_domain.proofs.atomic_shared.AtomicShared.from.Goals as goal

-- without a cell nothing was done
pub returns-in_default-clause-own : goal.returns-in_default-clause-own
returns-in_default-clause-own g c = ((own_of c.args.local.now).garbage, c.null.ensures.same.1)

pub returns-clause-own : goal.returns-clause-own
returns-clause-own g c = let put = c.put.ensures.own in (put.0, put.1 ∙ ap (λ (m : LocalState). record m { garbage = put.0 }) c.null.ensures.same.1)

pub returns-clause-put : goal.returns-clause-put
returns-clause-put g c = let e = c.put.ensures.put in
    (e.0, e.1, exchanged_behind c.in-Ok.cell.cell e.0 e.1 0 (c.args.owner.slot + 1) c.args.local.now c.null.new.local c.put.new.local c.null.ensures.same.0.0.0 c.null.ensures.cells e.2)
