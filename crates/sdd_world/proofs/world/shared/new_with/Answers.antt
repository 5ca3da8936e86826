use Rattle.std.proofs.Common.{refl}
use Rattle.sdd_table.specs.State.{placed}
use Rattle.sdd_world.proofs.FrameLemmas.{is_place, keeps_placed, kept, place_placed}
use Rattle.sdd_world.proofs.world.shared.new_with.Goals as goal

pub invariant_of-w : goal.invariant_of-w
invariant_of-w g c =
    let w = c.w.inside.table in
    let i = c.in-Ok.slot in
    let p = c.in-Ok.ensures.placed in
    is_place c.place.new.self (placed i c.f.result _ w) p.1 (place_placed w i c.f.result _ c.w.invariant p.0.0 p.0.1 refl refl)

pub returns-clause-keeps : goal.returns-clause-keeps
returns-clause-keeps g c =
    let w = c.w.inside.table in
    let p = c.in-Ok.ensures.placed in
    kept w c.args.w.now c.place.new.self (placed c.in-Ok.slot c.f.result _ w) c.w.view_is p.1 (keeps_placed w c.in-Ok.slot c.f.result _ p.0.1)
