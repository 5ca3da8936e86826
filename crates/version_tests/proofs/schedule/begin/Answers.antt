use Rattle.std.proofs.Common.{ℕ, List, [], ◌∷◌, Some, sym, ap, arith, subst}
use Rattle.std.specs.Ordering.{nat_cmp}
use Rattle.sdd_world.specs.Counting.{Counted, OwnersAreCounted}
use Rattle.sdd_world.specs.Frame.{has_owner}
use Rattle.sdd_world.specs.Holding.{Hold, SharedIn, SharedItem}
use Rattle.sdd_world.specs.State.{State}
use Rattle.sdd_world.specs.Tokens.{shared_cell, shared_slot}
use Rattle.sdd_world.specs.declared.tag.Tag.TheVariants as tag
use Rattle.sdd_world.proofs.CountLemmas.{owners_are_counted}
use Rattle.version_views.specs.Items.{held_by}
use Rattle.version_views.specs.declared.item.Item.{Item}
use Rattle.local_versions.specs.Placing.{IsPlaceable}
use Rattle.local_versions.proofs.BuildingLemmas.{alone}
use Rattle.version_tests.proofs.Settled.{Settled, counted_first, is_settled, settled_fresh, settled_placed}
use Rattle.version_tests.proofs.schedule.begin.Goals as goal

pub place-requires : goal.place-requires
place-requires g c =
    let new : Settled [] 13 c.in-Ok.w = subst (λ (w : State (Item ℕ ℕ 2)). Settled [] 13 w) (sym (rw c.in-Ok.is at c.new.ensures)) (settled_fresh (record { participants = 2; slots = 12; cells = 1; jobs = 0 })) in
    let empty = (alone nat_cmp [] c.empty.result c.empty.ensures.list c.empty.ensures.planned).placeable c.in-Ok.w in
    (omega arith, (omega arith, (omega arith, (is_settled [] 13 c.in-Ok.w new (omega arith), empty))))

pub built-one-requires-clause-last : goal.built-one-requires-clause-last
built-one-requires-clause-last g c =
    let made = rw c.placed-empty.ensures at c.place.ensures.placed in
    let number = (c.version.ensures.is _ _ made.version).1 in
    let none = c.empty.ensures.number in
    omega (arith, number, none)

pub place-requires-2 : goal.place-requires-2
place-requires-2 g c =
    let new : Settled [] 13 c.in-Ok.w = subst (λ (w : State (Item ℕ ℕ 2)). Settled [] 13 w) (sym (rw c.in-Ok.is at c.new.ensures)) (settled_fresh (record { participants = 2; slots = 12; cells = 1; jobs = 0 })) in
    let made = rw c.placed-empty.ensures at c.place.ensures.placed in
    let empty = shared_slot c.placed-empty.result in
    let settled = is_settled (SharedItem empty ∷ []) 13 c.place.new.w (settled_placed nat_cmp [] 13 _ _ _ empty c.in-Ok.w c.place.new.w new made) (omega arith) in
    let beside = c.built-one.ensures.placeable (shared_slot c.placed-empty.result) (ap has_owner made.shared.is) c.version.ensures.stands in
    let placeable = subst (λ older. IsPlaceable nat_cmp c.place.new.w older c.built-one.result) (sym c.owned_at.ensures) beside in
    (omega arith, (omega arith, (omega arith, (settled, placeable))))

pub built-two-requires-clause-last : goal.built-two-requires-clause-last
built-two-requires-clause-last g c =
    let made = rw c.placed-empty.ensures at c.place.ensures.placed in
    let number = (c.version.ensures.is _ _ made.version).1 in
    let none = c.empty.ensures.number in
    let made2 = rw c.placed-first.ensures at c.place-2.ensures.placed in
    let number2 = (c.version-2.ensures.is _ _ made2.version).1 in
    omega (arith, number, none, number2, c.built-one.ensures.number)

pub place-requires-3 : goal.place-requires-3
place-requires-3 g c =
    let new : Settled [] 13 c.in-Ok.w = subst (λ (w : State (Item ℕ ℕ 2)). Settled [] 13 w) (sym (rw c.in-Ok.is at c.new.ensures)) (settled_fresh (record { participants = 2; slots = 12; cells = 1; jobs = 0 })) in
    let empty = shared_slot c.placed-empty.result in
    let first = shared_slot c.placed-first.result in
    let made = rw c.placed-empty.ensures at c.place.ensures.placed in
    let made2 = rw c.placed-first.ensures at c.place-2.ensures.placed in
    let one = settled_placed nat_cmp [] 13 _ _ _ empty c.in-Ok.w c.place.new.w new made in
    let two = settled_placed nat_cmp (SharedItem empty ∷ []) 13 _ _ _ first c.place.new.w c.place-2.new.w one made2 in
    let settled = is_settled (SharedItem first ∷ SharedItem empty ∷ []) 13 c.place-2.new.w two (omega arith) in
    let beside = c.built-two.ensures.placeable (shared_slot c.placed-first.result) (ap has_owner made2.shared.is) c.version-2.ensures.stands in
    let placeable = subst (λ older. IsPlaceable nat_cmp c.place-2.new.w older c.built-two.result) (sym c.owned_at-2.ensures) beside in
    (omega arith, (omega arith, (omega arith, (settled, placeable))))

pub release-requires-clause-live : goal.release-requires-clause-live
release-requires-clause-live g c =
    let first = rw c.placed-first.ensures at c.place-2.ensures.placed in
    let second = rw c.placed-second.ensures at c.place-3.ensures.placed in
    let made = rw c.placed-empty.ensures at c.place.ensures.placed in
    second.adds.owned (shared_slot c.placed-empty.result) (first.adds.owned (shared_slot c.placed-empty.result) made.shared)

pub returns-clause-counted : goal.returns-clause-counted
returns-clause-counted g c =
    let owners : OwnersAreCounted {T = Item ℕ ℕ 2} held_by = owners_are_counted held_by in
    let Is : List Hold → State (Item ℕ ℕ 2) → Type 0 = λ hand w. Counted held_by hand w in
    let empty = shared_slot c.placed-empty.result in
    let first = shared_slot c.placed-first.result in
    let second = shared_slot c.placed-second.result in
    let root = shared_cell c.in-Ok-from.root in
    let made = rw c.in-Ok.is at c.new.ensures in
    let placed-empty = rw c.placed-empty.ensures at c.place.ensures.placed in
    let placed-first = rw c.placed-first.ensures at c.place-2.ensures.placed in
    let placed-second = rw c.placed-second.ensures at c.place-3.ensures.placed in
    let rooted = rw c.in-Ok-from.is at c.from.ensures.made in
    let one : Is (SharedItem empty ∷ []) c.place.new.w = placed-empty.counted [] (subst (Is []) (sym made) (owners.fresh (record { participants = 2; slots = 12; cells = 1; jobs = 0 }))) in
    let two : Is (SharedItem first ∷ SharedItem empty ∷ []) c.place-2.new.w = placed-first.counted (SharedItem empty ∷ []) one in
    let three : Is (SharedItem second ∷ SharedItem first ∷ SharedItem empty ∷ []) c.place-3.new.w = placed-second.counted (SharedItem first ∷ SharedItem empty ∷ []) two in
    let hand : List Hold = SharedItem second ∷ SharedItem first ∷ [] in
    let four : Is hand c.release.new.w = subst (Is hand) (sym c.release.ensures.released) (owners.given 1 (SharedItem empty) hand c.place-3.new.w (counted_first hand (SharedItem empty) [] c.place-3.new.w three)) in
    let five : Is (SharedItem first ∷ SharedItem second ∷ []) c.release.new.w = counted_first (SharedItem second ∷ []) (SharedItem first) [] c.release.new.w four in
    subst (Is (SharedIn root ∷ SharedItem second ∷ [])) (sym rooted.1) (owners.cell_made root (Some first) tag.None (SharedItem second ∷ []) c.release.new.w rooted.0 five)
