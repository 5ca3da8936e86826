use Rattle.std.proofs.Common.{◌≡◌, ◌<◌, length, ap, sym, subst, ◌∙◌}
use Rattle.sdd_table.specs.State.{State, cell_at, emptiness, with_cell, with_tag}
use Rattle.sdd_table.specs.declared.status.Cell.TheVariants as cell
use Rattle.sdd_world.specs.Tokens.{raw_cell}
use Rattle.sdd_world.proofs.CelledLemmas.{celled_keeps, celled_place}
use Rattle.sdd_world.proofs.FrameLemmas.{raw_cell_used}
use Rattle.sdd_world.proofs.world.atomic_raw.update_tag_if.Goals as goal

pub set_cell-requires-clause-inside : goal.set_cell-requires-clause-inside
set_cell-requires-clause-inside g c = subst (λ (w : State _). raw_cell c.args.cell.now < length w.cells) (sym c.w.view_is) c.requires.cell.inside

pub set_cell-requires-clause-was_used : goal.set_cell-requires-clause-was_used
set_cell-requires-clause-was_used g c = ap emptiness (sym c.cell.ensures ∙ c.in-OfRaw.is)

pub invariant_of-w : goal.invariant_of-w
invariant_of-w g c = celled_place c.w.inside.table c.set_cell.new.self (raw_cell c.args.cell.now) (cell.OfRaw c.in-OfRaw.slot c.args.tag) c.set_cell.ensures c.w.invariant

pub returns-clause-tagged : goal.returns-clause-tagged
returns-clause-tagged g c = λ _.
    let number = raw_cell c.args.cell.now in
    let at : cell_at c.w.inside.table number ≡ cell.OfRaw c.in-OfRaw.slot c.in-OfRaw.old = sym c.cell.ensures ∙ c.in-OfRaw.is in
    let was : cell.OfRaw c.in-OfRaw.slot c.in-OfRaw.old ≡ cell_at c.args.w.now number = sym at ∙ (λ j. cell_at (c.w.view_is j) number) in
    c.set_cell.ensures ∙ (λ j. with_cell number (with_tag c.args.tag (was j)) (c.w.view_is j))

-- the cell is still in use
pub returns-clause-used : goal.returns-clause-used
returns-clause-used g c =
    let inside = subst (λ (w : State _). raw_cell c.args.cell.now < length w.cells) (sym c.w.view_is) c.requires.cell.inside in
    raw_cell_used c.w.inside.table _ (raw_cell c.args.cell.now) _ _ inside c.set_cell.ensures

pub returns-clause-keeps : goal.returns-clause-keeps
returns-clause-keeps g c = celled_keeps c.w.inside.table c.set_cell.new.self (raw_cell c.args.cell.now) (cell.OfRaw c.in-OfRaw.slot c.args.tag) c.set_cell.ensures c.args.w.now c.w.view_is
