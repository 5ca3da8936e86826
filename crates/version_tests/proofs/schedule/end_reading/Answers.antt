use Rattle.std.proofs.Common.{ℕ, sym, subst}
use Rattle.sdd_world.specs.Counting.{Counted, OwnersAreCounted}
use Rattle.sdd_world.specs.State.{State}
use Rattle.sdd_world.specs.Tokens.{guard_participant}
use Rattle.sdd_world.proofs.CountLemmas.{owners_are_counted}
use Rattle.version_views.specs.Items.{held_by}
use Rattle.version_views.specs.declared.item.Item.{Item}
use Rattle.version_tests.proofs.schedule.end_reading.Goals as goal

pub returns-clause-counted : goal.returns-clause-counted
returns-clause-counted c = λ hand h.
    let owners : OwnersAreCounted {T = Item ℕ ℕ 2} held_by = owners_are_counted held_by in
    subst (λ (x : State (Item ℕ ℕ 2)). Counted held_by hand x) (sym c.close.ensures.closed) (owners.closed (guard_participant c.args.reading) hand c.args.w.now h)
