use Rattle.std.proofs.Common.{◌≡◌, ◌∙◌, ℕ, ap, sym, subst, arith, length}
use Rattle.sdd_world.specs.Counting.{Counted}
use Rattle.sdd_world.specs.Passing.{accelerated, passed}
use Rattle.sdd_world.specs.State.{State}
use Rattle.sdd_world.specs.Steps.{guard_closed, guard_opened}
use Rattle.sdd_world.specs.Tokens.{guard_participant}
use Rattle.version_views.specs.Items.{held_by}
use Rattle.version_views.specs.declared.item.Item.{Item}
use Rattle.local_versions.proofs.ReclaimLemmas.{counted_passed}
use Rattle.version_tests.proofs.placing.passes.Goals.{in-Ok, in_default}
use Rattle.version_tests.proofs.placing.passes.Goals as goal

pub loop-preserved : goal.loop-preserved
loop-preserved c =
    let i = c.loop.invariant in
    let w = c.loop.w in
    elim c.match-new.branch [
      | in-Ok b ↦
          let q = guard_participant b.in-Ok.open in
          let new = b.in-Ok.ensures in
          let accelerate = b.accelerate.ensures in
          let close = b.close.ensures in
          let now : c.match-new.w ≡ passed held_by 0 w =
          b.w-is
          ∙ close.closed
          ∙ ap (λ (x : State (Item ℕ ℕ 2)). guard_closed q x) accelerate.set
          ∙ ap (λ (x : State (Item ℕ ℕ 2)). guard_closed q (accelerated q x)) new.opened.1
          ∙ ap (λ (k : ℕ). guard_closed k (accelerated k (guard_opened held_by 0 w))) new.opened.0 in
          let same = ap (λ (x : State (Item ℕ ℕ 2)). length x.participants) b.w-is in
          let one = new.keeps.participants in
          let two = accelerate.keeps.participants in
          let three = close.keeps.participants in
          let some = i.participants in
          record {
            participants = omega (arith, same, one, two, three, some);
            counted = λ hand h. subst (λ (x : State (Item ℕ ℕ 2)). Counted held_by hand x) (sym now) (counted_passed 0 hand w c.laws.ensures i.participants (i.counted hand h));
          }
      | in_default b ↦
          let now : c.match-new.w ≡ w = b.w-is ∙ b.in_default.ensures.refused in
          let same = ap (λ (x : State (Item ℕ ℕ 2)). length x.participants) now in
          let some = i.participants in
          record {
            participants = omega (arith, same, some);
            counted = λ hand h. subst (λ (x : State (Item ℕ ℕ 2)). Counted held_by hand x) (sym now) (i.counted hand h);
          }
    ]
