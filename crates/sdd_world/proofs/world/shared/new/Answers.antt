use Rattle.std.proofs.Common.{ℕ, sym, subst}
use Rattle.sdd_table.specs.Place.{IsShared}
use Rattle.sdd_world.proofs.FrameLemmas.{shared_placed}
use Rattle.sdd_world.proofs.world.shared.new.Goals as goal

pub returns-clause-live : goal.returns-clause-live
returns-clause-live g c =
    let p = c.in_ok-place.ensures.placed in
    subst (λ (i : ℕ). IsShared c.place.new.self i) (sym c.shared_at.ensures) (shared_placed c.w.inside.table c.place.new.self c.in_ok-place.field-0 c.args.value p.0.0 p.1)
