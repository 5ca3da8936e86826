use Rattle.std.proofs.Common.{◌≤◌, ◌+◌, ℕ, List, [], ◌∷◌, length, sym, ap, ◌∙◌, arith, subst}
use Rattle.std.proofs.lemmas.List.{length-replicate}
use Rattle.std.specs.Ordering.{nat_cmp}
use Rattle.sdd_world.specs.Counting.{Counted, OwnersAreCounted}
use Rattle.sdd_world.specs.Frame.{has_owner}
use Rattle.sdd_world.specs.Holding.{Hold, SharedItem}
use Rattle.sdd_world.specs.State.{State, nobody}
use Rattle.sdd_world.specs.Tokens.{shared_slot}
use Rattle.sdd_world.specs.declared.sizes.Sizes.{Sizes}
use Rattle.sdd_world.proofs.CountLemmas.{owners_are_counted}
use Rattle.version_views.specs.Items.{held_by}
use Rattle.version_views.specs.declared.item.Item.{Item}
use Rattle.local_versions.proofs.BuildingLemmas.{alone}
use Rattle.version_tests.proofs.Settled.{Settled, is_settled, settled_fresh, settled_placed}
use Rattle.version_tests.proofs.placing.begin.Goals as goal

pub place-requires : goal.place-requires
place-requires g c =
    let sizes = c.sizes.result in
    let n : ℕ = sizes.slots + sizes.jobs + sizes.cells in
    let few = ap (λ (x : Sizes). x.slots + x.jobs + x.cells) c.sizes.ensures in
    let new : Settled [] n c.in-Ok.w = subst (λ (w : State (Item ℕ ℕ 2)). Settled [] n w) (sym (rw c.in-Ok.is at c.new.ensures)) (settled_fresh sizes) in
    let empty = (alone nat_cmp [] c.empty.result c.empty.ensures.list c.empty.ensures.planned).placeable c.in-Ok.w in
    (omega arith, (omega arith, (omega arith, (is_settled [] n c.in-Ok.w new (omega (arith, few, c.requires)), empty))))

pub build-requires : goal.build-requires
build-requires g c =
    let made = rw c.placed-first.ensures at c.place.ensures.placed in
    let number = (c.version-2.ensures.is _ _ made.version).1 in
    let none = c.empty.ensures.number in
    let one : 1 ≤ 2 = omega arith in
    let two : 2 ≤ 225 = omega arith in
    (omega arith, (omega arith, (c.version-2.ensures.version, ((one, two), (omega (arith, number, none), ((λ x y e. e), (λ x y e. e)))))))

pub returns-clause-participants : goal.returns-clause-participants
returns-clause-participants g c =
    let first = rw c.placed-first.ensures at c.place.ensures.placed in
    let participants = ap length first.adds.participants ∙ ap (λ w. length w.participants) (rw c.in-Ok.is at c.new.ensures) in
    omega (arith, participants, length-replicate c.sizes.result.participants nobody, ap (λ n. n.participants) c.sizes.ensures)

pub returns-clause-shared : goal.returns-clause-shared
returns-clause-shared g c =
    let first = rw c.placed-first.ensures at c.place.ensures.placed in
    first.shared

pub returns-clause-settled : goal.returns-clause-settled
returns-clause-settled g c =
    let sizes = c.sizes.result in
    let n : ℕ = sizes.slots + sizes.jobs + sizes.cells in
    let few = ap (λ (x : Sizes). x.slots + x.jobs + x.cells) c.sizes.ensures in
    let first = shared_slot c.placed-first.result in
    let made = rw c.placed-first.ensures at c.place.ensures.placed in
    let new : Settled [] n c.in-Ok.w = subst (λ (w : State (Item ℕ ℕ 2)). Settled [] n w) (sym (rw c.in-Ok.is at c.new.ensures)) (settled_fresh sizes) in
    is_settled (SharedItem first ∷ []) n c.place.new.w (settled_placed nat_cmp [] n _ _ _ first c.in-Ok.w c.place.new.w new made) (omega (arith, few, c.requires))

pub returns-clause-placeable : goal.returns-clause-placeable
returns-clause-placeable g c =
    let made = rw c.placed-first.ensures at c.place.ensures.placed in
    c.in-Ok-build.ensures.placeable (shared_slot c.placed-first.result) (ap has_owner made.shared.is) c.version-2.ensures.stands

pub returns-clause-counted : goal.returns-clause-counted
returns-clause-counted g c =
    let owners : OwnersAreCounted {T = Item ℕ ℕ 2} held_by = owners_are_counted held_by in
    let Is : List Hold → State (Item ℕ ℕ 2) → Type 0 = λ hand w. Counted held_by hand w in
    let first = rw c.placed-first.ensures at c.place.ensures.placed in
    first.counted [] (subst (Is []) (sym (rw c.in-Ok.is at c.new.ensures)) (owners.fresh c.sizes.result))
