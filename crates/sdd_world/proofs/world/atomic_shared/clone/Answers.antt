use Rattle.std.proofs.Common.{sym, subst}
use Rattle.sdd_table.specs.State.{State}
use Rattle.sdd_table.specs.Frame.{Frame}
use Rattle.sdd_table.specs.declared.status.Cell.TheVariants as cell
use Rattle.sdd_world.proofs.CelledLemmas.{celled_after, celled_place}
use Rattle.sdd_world.proofs.world.atomic_shared.clone.Goals as goal

pub invariant_of-w : goal.invariant_of-w
invariant_of-w g c = celled_place c.w-2.inside.table c.claim_cell.new.self c.in-Some.cell (cell.OfShared c.into_slot.result c.tag-tag.result) c.in-Some.ensures.claimed.1 c.w-2.invariant

pub returns-clause-keeps : goal.returns-clause-keeps
returns-clause-keeps g c =
    let w = c.w-2.inside.table in
    let before = subst (λ (s : State _). Frame c.args.w.now s) (sym c.w-2.view_is) c.get_shared-shared.ensures.keeps in
    celled_after w c.claim_cell.new.self c.in-Some.cell (cell.OfShared c.into_slot.result c.tag-tag.result) c.in-Some.ensures.claimed.1 c.args.w.now before
