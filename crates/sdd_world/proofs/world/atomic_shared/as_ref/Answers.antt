use Rattle.std.proofs.Common.{◌≡◌, ◌∙◌, sym, ap, subst, ◌<◌, ℕ, length, Option, Some}
use Rattle.sdd_table.specs.State.{State, cell_at}
use Rattle.sdd_table.specs.declared.status.Cell.TheVariants as cell
use Rattle.sdd_world.specs.Tokens.{shared_cell}
use Rattle.sdd_world.proofs.world.atomic_shared.as_ref.Goals as goal

-- the item that the cell keeps is in a slot
pub value-requires-clause-slot : goal.value-requires-clause-slot
value-requires-clause-slot g c =
    let s = c.in-OfShared-Some-default in
    let at = shared_cell c.args.cell.now in
    let kept = subst (λ (w : State _). cell_at w at ≡ cell.OfShared (Some s.slot) s.field-1) c.w.view_is (ap (λ (i : ℕ). cell_at c.w.inside.table i) (sym c.number_of_shared_cell.ensures) ∙ sym c.cell.ensures ∙ s.is ∙ ap (λ (o : Option ℕ). cell.OfShared o s.field-1) s.field-0-is) in
    subst (λ (w : State _). s.slot < length w.states) (sym c.w.view_is) (c.requires.there s.slot s.field-1 kept).0
