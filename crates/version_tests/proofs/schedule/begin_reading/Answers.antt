use Rattle.std.proofs.Common.{◌<◌, ℕ, List, ◌∷◌, length, sym, subst, arith}
use Rattle.sdd_world.specs.Counting.{Counted, OwnersAreCounted}
use Rattle.sdd_world.specs.Holding.{Hold, SharedIn}
use Rattle.sdd_world.specs.State.{State}
use Rattle.sdd_world.specs.Tokens.{shared_cell}
use Rattle.sdd_world.proofs.CountLemmas.{owners_are_counted}
use Rattle.version_views.specs.Items.{held_by}
use Rattle.version_views.specs.declared.item.Item.{Item}
use Rattle.version_tests.proofs.schedule.begin_reading.Goals as goal

pub load-at-requires-after_bounds : goal.load-at-requires-after_bounds
load-at-requires-after_bounds g c = λ _.
    let owners : OwnersAreCounted {T = Item ℕ ℕ 2} held_by = owners_are_counted held_by in
    let root = shared_cell c.args.root.now in
    let rest = c.requires.root.0 in
    let hand : List Hold = SharedIn root ∷ rest in
    let participant : 0 < length c.args.w.now.participants = omega (arith, c.requires.participants) in
    owners.cell_in_hand root rest c.new.new.w (subst (λ (x : State (Item ℕ ℕ 2)). Counted held_by hand x) (sym c.in-Ok.ensures.opened.1) (owners.opened 0 hand c.args.w.now c.laws.ensures participant c.requires.root.1))

pub returns-clause-counted : goal.returns-clause-counted
returns-clause-counted g c = λ hand h.
    let owners : OwnersAreCounted {T = Item ℕ ℕ 2} held_by = owners_are_counted held_by in
    let participant : 0 < length c.args.w.now.participants = omega (arith, c.requires.participants) in
    subst (λ (x : State (Item ℕ ℕ 2)). Counted held_by hand x) (sym c.in-Ok.ensures.opened.1) (owners.opened 0 hand c.args.w.now c.laws.ensures participant h)
