use Rattle.std.proofs.Common.{subst, sym, ◌<◌, length}
use Rattle.sdd_table.specs.State.{State}
use Rattle.sdd_table.specs.Steps.{guard_closed}
use Rattle.sdd_table.specs.Place.{IsOpen}
use Rattle.sdd_world.specs.Tokens.{guard_participant}
use Rattle.sdd_table.proofs.PlaceLemmas.{place_closed}
use Rattle.sdd_world.proofs.FrameLemmas.{keeps_closed, kept, only_of, is_place}
use Rattle.sdd_world.proofs.world.guard.close.Goals as goal

pub invariant_of-w : goal.invariant_of-w
invariant_of-w g c =
    let p = guard_participant c.args.guard in
    let known : p < length c.w.inside.table.participants = subst (λ (w : State _). p < length w.participants) (sym c.w.view_is) c.requires.participant in
    let open' : IsOpen c.w.inside.table p = subst (λ (w : State _). IsOpen w p) (sym c.w.view_is) c.requires.open in
    is_place _ (guard_closed p c.w.inside.table) c.close.ensures (place_closed c.w.inside.table p c.w.invariant known open')

pub returns-clause-keeps : goal.returns-clause-keeps
returns-clause-keeps g c =
    let p = guard_participant c.args.guard in
    let known : p < length c.w.inside.table.participants = subst (λ (w : State _). p < length w.participants) (sym c.w.view_is) c.requires.participant in
    kept c.w.inside.table _ _ (guard_closed p c.w.inside.table) c.w.view_is c.close.ensures (keeps_closed c.w.inside.table p known).0

pub returns-clause-only : goal.returns-clause-only
returns-clause-only g c =
    let p = guard_participant c.args.guard in
    let known : p < length c.w.inside.table.participants = subst (λ (w : State _). p < length w.participants) (sym c.w.view_is) c.requires.participant in
    only_of p c.w.inside.table _ _ (guard_closed p c.w.inside.table) c.w.view_is c.close.ensures (keeps_closed c.w.inside.table p known).1
