use Rattle.std.proofs.Common.{◌≡◌, ℕ, List, [], ◌∷◌, Some, length, ap, sym, subst, ◌∙◌, arith, get_or-set_same}
use Rattle.std.specs.Ordering.{nat_cmp}
use Rattle.sdd_world.specs.Counting.{Counted, OwnersAreCounted}
use Rattle.sdd_world.specs.Holding.{Hold, SharedIn, SharedItem}
use Rattle.sdd_world.specs.Place.{IsShared}
use Rattle.sdd_world.specs.State.{State, cell_at, with_cell}
use Rattle.sdd_world.specs.Tokens.{shared_cell, shared_slot}
use Rattle.sdd_world.specs.declared.status.Cell.TheVariants as cell
use Rattle.sdd_world.specs.declared.tag.Tag.{Tag}
use Rattle.sdd_world.specs.declared.tag.Tag.TheVariants as tag
use Rattle.sdd_world.proofs.CountLemmas.{owners_are_counted}
use Rattle.version_views.specs.Items.{held_by}
use Rattle.version_views.specs.declared.item.Item.{Item}
use Rattle.local_versions.specs.Placing.{IsPlaceable}
use Rattle.version_tests.proofs.Settled.{counted_first, version_with_cell}
use Rattle.version_tests.proofs.placing.a_version_takes_a_slot_for_each_segment_and_one.Goals as goal

pub place-requires : goal.place-requires
place-requires g c =
    let placeable = subst (λ at. IsPlaceable nat_cmp c.begin-w.result.w at c.begin-w.result.built) (sym c.owned_at-older.ensures) c.begin-w.ensures.placeable in
    (omega arith, (omega arith, (omega arith, (c.begin-w.ensures.settled, placeable))))

-- the cell of the root leaves the version and its owner
pub version-requires : goal.version-requires
version-requires g c =
    let second = shared_slot c.placed-second.result in
    let placed-second = rw c.placed-second.ensures at c.place.ensures.placed in
    let rooted = rw c.in-Ok.is at c.from.ensures.made in
    let sh = placed-second.shared in
    let owned : IsShared c.from.new.w second = subst (λ w. IsShared w second) (sym rooted.1) (record { inside = sh.inside; owners = sh.owners; is = sh.is }) in
    let there = version_with_cell nat_cmp _ _ second _ _ c.place.new.w c.from.new.w rooted.1 placed-second.version in
    (omega arith, (owned, (_, _, there)))

pub publish-requires : goal.publish-requires
publish-requires g c =
    let first = shared_slot c.begin-w.result.first in
    let root = shared_cell c.in-Ok.root in
    let placed-second = rw c.placed-second.ensures at c.place.ensures.placed in
    let rooted = rw c.in-Ok.is at c.from.ensures.made in
    let participants = ap (λ w. length w.participants) rooted.1 ∙ ap length placed-second.adds.participants ∙ c.begin-w.ensures.participants in
    let kept : cell_at c.from.new.w root ≡ cell.OfShared (Some first) tag.None = ap (λ w. cell_at w root) rooted.1 ∙ get_or-set_same c.place.new.w.cells root (cell.OfShared (Some first) tag.None) cell.Free rooted.0.0 in
    let sh = placed-second.adds.owned first c.begin-w.ensures.shared in
    let owned : IsShared c.from.new.w first = subst (λ w. IsShared w first) (sym rooted.1) (record { inside = sh.inside; owners = sh.owners; is = sh.is }) in
    (omega arith, (omega (arith, participants), (rw c.in-Ok.is at c.from.ensures.used, λ i t e. subst (λ j. IsShared c.from.new.w j) (slot_same first i tag.None t (sym kept ∙ e)) owned)))
  where
    slot_same : (i j : ℕ) (s t : Tag) → cell.OfShared (Some i) s ≡ cell.OfShared (Some j) t → i ≡ j
    slot_same i j s t e = cc

-- the one owner outside is the root's, so it is there after the passes too
pub retire-requires-clause-cell : goal.retire-requires-clause-cell
retire-requires-clause-cell g c =
    let owners : OwnersAreCounted {T = Item ℕ ℕ 2} held_by = owners_are_counted held_by in
    let Is : List Hold → State (Item ℕ ℕ 2) → Type 0 = λ hand w. Counted held_by hand w in
    let first = shared_slot c.begin-w.result.first in
    let second = shared_slot c.placed-second.result in
    let root = shared_cell c.in-Ok.root in
    let hand : List Hold = SharedIn root ∷ [] in
    let placed-second = rw c.placed-second.ensures at c.place.ensures.placed in
    let rooted = rw c.in-Ok.is at c.from.ensures.made in
    let used = rw c.in-Ok.is at c.from.ensures.used in
    let kept : cell_at c.from.new.w root ≡ cell.OfShared (Some first) tag.None = ap (λ w. cell_at w root) rooted.1 ∙ get_or-set_same c.place.new.w.cells root (cell.OfShared (Some first) tag.None) cell.Free rooted.0.0 in
    let one : Is (SharedItem first ∷ []) c.begin-w.result.w = c.begin-w.ensures.counted in
    let two : Is (SharedItem second ∷ SharedItem first ∷ []) c.place.new.w = placed-second.counted (SharedItem first ∷ []) one in
    let three : Is (SharedItem first ∷ SharedItem second ∷ []) c.place.new.w = counted_first (SharedItem second ∷ []) (SharedItem first) [] c.place.new.w two in
    let four : Is (SharedIn root ∷ SharedItem second ∷ []) c.from.new.w = subst (Is (SharedIn root ∷ SharedItem second ∷ [])) (sym rooted.1) (owners.cell_made root (Some first) tag.None (SharedItem second ∷ []) c.place.new.w rooted.0 three) in
    let five : Is (SharedItem second ∷ hand) c.from.new.w = counted_first hand (SharedItem second) [] c.from.new.w four in
    let six = owners.cell_swapped root (Some first) (Some second) tag.None tag.None hand c.from.new.w used.inside kept five in
    let seven : Is hand c.publish.new.w = subst (Is hand) (sym (c.publish.ensures.published (Some first) tag.None kept)) (owners.given 0 (SharedItem first) hand (with_cell root (cell.OfShared (Some second) tag.None) c.from.new.w) six) in
    owners.cell_in_hand root [] c.passes.new.w (c.passes.ensures.counted hand seven)
