use Rattle.std.proofs.Common.{◌≡◌, ◌∙◌, ℕ, ap, sym, subst}
use Rattle.sdd_world.specs.Counting.{Counted}
use Rattle.sdd_world.specs.Passing.{accelerated, passed}
use Rattle.sdd_world.specs.State.{State}
use Rattle.sdd_world.specs.Steps.{guard_closed, guard_opened}
use Rattle.sdd_world.specs.Tokens.{guard_participant}
use Rattle.version_views.specs.Items.{held_by}
use Rattle.version_views.specs.declared.item.Item.{Item}
use Rattle.local_versions.proofs.ReclaimLemmas.{counted_passed}
use Rattle.version_tests.proofs.schedule.pass.Goals as goal

pub returns-clause-counted : goal.returns-clause-counted
returns-clause-counted g c = λ hand h.
    let w = c.args.w.now in
    let q = guard_participant c.in-Ok.one in
    let new = c.in-Ok.ensures in
    let now : c.close.new.w ≡ passed held_by 1 w =
    c.close.ensures.closed
    ∙ ap (λ (x : State (Item ℕ ℕ 2)). guard_closed q x) c.accelerate.ensures.set
    ∙ ap (λ (x : State (Item ℕ ℕ 2)). guard_closed q (accelerated q x)) new.opened.1
    ∙ ap (λ (k : ℕ). guard_closed k (accelerated k (guard_opened held_by 1 w))) new.opened.0 in
    subst (λ (x : State (Item ℕ ℕ 2)). Counted held_by hand x) (sym now) (counted_passed 1 hand w c.laws.ensures c.requires h)
