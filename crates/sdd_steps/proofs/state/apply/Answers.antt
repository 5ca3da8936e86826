use Rattle.std.proofs.Common.{sym, subst, ◌∙◌, ap}
use Rattle.sdd_steps.specs.State.{State}
use Rattle.sdd_steps.specs.Steps.{after}
use Rattle.sdd_steps.specs.Snapshots.{HasRoom, snapshot_state}
use Rattle.sdd_steps.proofs.Law.{keeps, has_room}
use Rattle.sdd_steps.proofs.state.apply.Goals as goal

pub take-requires-clause-room : goal.take-requires-clause-room
take-requires-clause-room c = subst HasRoom (sym c.in_ok-next.ensures) (has_room (snapshot_state c.state.inside.snapshot) c.state.invariant)

-- the step leads from the state that is known to meet the invariant
pub invariant_of-result : goal.invariant_of-result
invariant_of-result c = let s = snapshot_state c.state.inside.snapshot in
    keeps s c.args.step (snapshot_state c.take.new.self) (sym c.is_enabled.ensures ∙ c.if-not-is_enabled.false, c.in_ok-take.ensures ∙ ap (λ (z : State). after z c.args.step) c.in_ok-next.ensures) c.state.invariant
