use Rattle.std.proofs.Common.{ap, sym, subst, ◌∙◌}
use Rattle.sdd_table.specs.State.{State, with_cell}
use Rattle.sdd_table.specs.declared.status.Cell.{Cell}
use Rattle.sdd_world.specs.Kinds.{IsCellOf}
use Rattle.sdd_world.proofs.KindLemmas.{kind_inside, kind_used}
use Rattle.sdd_world.proofs.world.cells.put.Goals as goal

pub returns-clause-used : goal.returns-clause-used
returns-clause-used g c =
    let k = g.C.OwningCell.kind in
    let w = c.w.inside.table in
    let n = c.number_of.result in
    let at : IsCellOf k w n = subst (IsCellOf k w) (sym c.number_of.ensures) (subst (λ (s : State _). IsCellOf k s (g.C.OwningCell.number c.args.cell.now)) (sym c.w.view_is) c.requires) in
    subst (IsCellOf k c.set_cell.new.self) c.number_of.ensures (kind_used k w _ n _ _ (kind_inside k w n at) (c.set_cell.ensures ∙ ap (λ (o : Cell). with_cell n o w) c.word.ensures))
