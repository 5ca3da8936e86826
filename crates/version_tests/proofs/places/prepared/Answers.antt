use Rattle.std.proofs.Common.{[], ◌∷◌, sym, ap, arith, subst}
use Rattle.sdd_world.specs.Frame.{has_owner}
use Rattle.sdd_world.specs.Holding.{SharedItem}
use Rattle.sdd_world.specs.Tokens.{shared_slot}
use Rattle.local_versions.specs.Placing.{IsPlaceable}
use Rattle.local_versions.proofs.BuildingLemmas.{alone}
use Rattle.local_versions.proofs.StayingLemmas.{versions_stay}
use Rattle.version_tests.proofs.Settled.{Settled, is_settled, placed_leaves, settled_new, settled_placed}
use Rattle.version_tests.proofs.places.prepared.Goals as goal

pub place-requires : goal.place-requires
place-requires g c =
    let new : Settled [] 1000 c.in-Ok.w = settled_new (record { participants = 1; slots = 1000; cells = 0; jobs = 0 }) c.in-Ok.w c.in-Ok.ensures in
    let empty = (alone g.K.Ord.cmp [] c.empty.result c.empty.ensures.list c.empty.ensures.planned).placeable c.in-Ok.w in
    (omega arith, (omega arith, (omega arith, (is_settled [] 1000 c.in-Ok.w new (omega arith), empty))))

pub build-requires : goal.build-requires
build-requires g c =
    let number = (c.version.ensures.is _ _ c.in-Ok-place.ensures.placed.version).1 in
    let none = c.empty.ensures.number in
    (omega arith, (omega arith, (c.version.ensures.version, (c.requires.size, (omega (arith, number, none), (c.requires.keys, (λ x y e. e)))))))

pub place-requires-2 : goal.place-requires-2
place-requires-2 g c =
    let none = shared_slot c.in-Ok-place.none in
    let new : Settled [] 1000 c.in-Ok.w = settled_new (record { participants = 1; slots = 1000; cells = 0; jobs = 0 }) c.in-Ok.w c.in-Ok.ensures in
    let settled = is_settled (SharedItem none ∷ []) 1000 c.place.new.w (settled_placed g.K.Ord.cmp [] 1000 _ _ _ none c.in-Ok.w c.place.new.w new c.in-Ok-place.ensures.placed) (omega arith) in
    let live = ap has_owner c.in-Ok-place.ensures.placed.shared.is in
    let beside = c.in-Ok-build.ensures.placeable (shared_slot c.in-Ok-place.none) live c.version.ensures.stands in
    let placeable = subst (λ older. IsPlaceable g.K.Ord.cmp c.place.new.w older c.in-Ok-build.made.0) (sym c.owned_at.ensures) beside in
    (omega arith, (omega arith, (omega arith, (settled, placeable))))

-- the empty version keeps its owner, and stays whole
pub returns-clause-none : goal.returns-clause-none
returns-clause-none g c = c.in-Ok-place-2.ensures.placed.adds.owned (shared_slot c.in-Ok-place.none) c.in-Ok-place.ensures.placed.shared

pub returns-clause-empty : goal.returns-clause-empty
returns-clause-empty g c =
    let none = shared_slot c.in-Ok-place.none in
    let made = c.in-Ok-place.ensures.placed in
    let new : Settled [] 1000 c.in-Ok.w = settled_new (record { participants = 1; slots = 1000; cells = 0; jobs = 0 }) c.in-Ok.w c.in-Ok.ensures in
    let one = settled_placed g.K.Ord.cmp [] 1000 _ _ _ none c.in-Ok.w c.place.new.w new made in
    let leaves = placed_leaves g.K.Ord.cmp (SharedItem none ∷ []) 1000 _ _ _ _ c.place.new.w c.place-2.new.w one c.in-Ok-place-2.ensures.placed in
    (_, _, (versions_stay g.K.Ord.cmp).owned c.place.new.w c.place-2.new.w none _ _ (ap has_owner made.shared.is) made.version leaves)

pub returns-clause-counted : goal.returns-clause-counted
returns-clause-counted g c =
    let new : Settled [] 1000 c.in-Ok.w = settled_new (record { participants = 1; slots = 1000; cells = 0; jobs = 0 }) c.in-Ok.w c.in-Ok.ensures in
    c.in-Ok-place-2.ensures.placed.counted (SharedItem (shared_slot c.in-Ok-place.none) ∷ []) (c.in-Ok-place.ensures.placed.counted [] new.counted)
