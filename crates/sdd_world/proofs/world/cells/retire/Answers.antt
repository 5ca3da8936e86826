use Rattle.std.proofs.Common.{subst, sym, ◌<◌, length}
use Rattle.sdd_table.specs.State.{State}
use Rattle.sdd_table.proofs.PlaceLemmas.{place_by}
use Rattle.sdd_world.specs.Kinds.{cell_ended}
use Rattle.sdd_world.proofs.FrameLemmas.{keeps_gives, kept, is_place}
use Rattle.sdd_world.proofs.KindLemmas.{gives_cell_ended}
use Rattle.sdd_world.proofs.world.cells.retire.Goals as goal

pub invariant_of-w : goal.invariant_of-w
invariant_of-w g c =
    let k = g.C.OwningCell.kind in
    let w = c.w.inside.table in
    let p = c.args.p in
    let i = g.C.OwningCell.number c.args.cell in
    let known : p < length w.participants = subst (λ (w : State _). p < length w.participants) (sym c.w.view_is) c.requires.participant in
    is_place _ (cell_ended k p i w) c.end.ensures (place_by w (cell_ended k p i w) p c.w.invariant (gives_cell_ended k w p i c.w.invariant.sound known))

pub returns-clause-keeps : goal.returns-clause-keeps
returns-clause-keeps g c =
    let k = g.C.OwningCell.kind in
    let w = c.w.inside.table in
    let p = c.args.p in
    let i = g.C.OwningCell.number c.args.cell in
    let known : p < length w.participants = subst (λ (w : State _). p < length w.participants) (sym c.w.view_is) c.requires.participant in
    kept w _ _ (cell_ended k p i w) c.w.view_is c.end.ensures (keeps_gives p w (cell_ended k p i w) c.w.invariant.sound (gives_cell_ended k w p i c.w.invariant.sound known))
