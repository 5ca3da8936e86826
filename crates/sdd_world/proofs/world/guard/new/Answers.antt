use Rattle.std.proofs.Common.{subst, sym, ◌<◌, length}
use Rattle.sdd_table.specs.State.{State}
use Rattle.sdd_table.specs.Place.{IsOpen}
use Rattle.sdd_table.specs.Steps.{guard_opened}
use Rattle.sdd_table.proofs.PlaceLemmas.{place_opened}
use Rattle.sdd_world.proofs.FrameLemmas.{keeps_opened, opened_open, kept, only_of, is_place}
use Rattle.sdd_world.proofs.world.guard.new.Goals as goal

pub invariant_of-w : goal.invariant_of-w
invariant_of-w g c =
    let known : c.args.p < length c.w.inside.table.participants = subst (λ (w : State _). c.args.p < length w.participants) (sym c.w.view_is) c.requires in
    is_place _ (guard_opened g.T.Holds.holds c.args.p c.w.inside.table) c.open.ensures (place_opened g.T.Holds.holds c.w.inside.table c.args.p c.w.invariant known)

pub returns-clause-keeps : goal.returns-clause-keeps
returns-clause-keeps g c =
    let known : c.args.p < length c.w.inside.table.participants = subst (λ (w : State _). c.args.p < length w.participants) (sym c.w.view_is) c.requires in
    kept c.w.inside.table _ _ (guard_opened g.T.Holds.holds c.args.p c.w.inside.table) c.w.view_is c.open.ensures (keeps_opened g.T.Holds.holds c.w.inside.table c.args.p c.w.invariant known).0

pub returns-clause-only : goal.returns-clause-only
returns-clause-only g c =
    let known : c.args.p < length c.w.inside.table.participants = subst (λ (w : State _). c.args.p < length w.participants) (sym c.w.view_is) c.requires in
    only_of c.args.p c.w.inside.table _ _ (guard_opened g.T.Holds.holds c.args.p c.w.inside.table) c.w.view_is c.open.ensures (keeps_opened g.T.Holds.holds c.w.inside.table c.args.p c.w.invariant known).1

pub returns-clause-open : goal.returns-clause-open
returns-clause-open g c =
    let known : c.args.p < length c.w.inside.table.participants = subst (λ (w : State _). c.args.p < length w.participants) (sym c.w.view_is) c.requires in
    subst (λ (w : State _). IsOpen w c.args.p) (sym c.open.ensures) (opened_open g.T.Holds.holds c.w.inside.table c.args.p c.w.invariant known)
