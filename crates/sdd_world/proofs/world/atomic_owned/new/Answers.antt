use Rattle.std.proofs.Common.{ℕ, refl, sym, subst, Some}
use Rattle.sdd_table.specs.Place.{IsOwnedCell}
use Rattle.sdd_table.specs.State.{placed}
use Rattle.sdd_table.specs.declared.status.Cell.TheVariants as cell
use Rattle.sdd_table.specs.declared.status.Status.TheVariants as status
use Rattle.sdd_table.specs.declared.tag.Tag.TheVariants as tag
use Rattle.sdd_world.proofs.CelledLemmas.{celled_after, celled_place}
use Rattle.sdd_world.proofs.FrameLemmas.{is_place, keeps_placed, kept, owned_cell_used, place_placed}
use Rattle.sdd_world.proofs.world.atomic_owned.new.Goals as goal

pub returns-clause-used : goal.returns-clause-used
returns-clause-used g c =
    let p = c.in-Some.ensures.claimed in
    subst (λ (i : ℕ). IsOwnedCell c.claim_cell.new.self i) (sym c.owned_cell_at.ensures) (owned_cell_used c.place.new.self c.claim_cell.new.self c.in-Some.cell (Some c.in-Ok.slot) tag.None p.0.0 p.1)

pub invariant_of-w : goal.invariant_of-w
invariant_of-w g c =
    let w = c.w.inside.table in
    let i = c.in-Ok.slot in
    let p = c.in-Ok.ensures.placed in
    let place = is_place c.place.new.self (placed i c.args.value status.Owned w) p.1 (place_placed w i c.args.value status.Owned c.w.invariant p.0.0 p.0.1 refl refl) in
    celled_place c.place.new.self c.claim_cell.new.self c.in-Some.cell (cell.OfOwned (Some i) tag.None) c.in-Some.ensures.claimed.1 place

pub returns-clause-keeps : goal.returns-clause-keeps
returns-clause-keeps g c =
    let w = c.w.inside.table in
    let i = c.in-Ok.slot in
    let p = c.in-Ok.ensures.placed in
    let keeps = kept w c.args.w.now c.place.new.self (placed i c.args.value status.Owned w) c.w.view_is p.1 (keeps_placed w i c.args.value status.Owned p.0.1) in
    celled_after c.place.new.self c.claim_cell.new.self c.in-Some.cell (cell.OfOwned (Some i) tag.None) c.in-Some.ensures.claimed.1 c.args.w.now keeps
