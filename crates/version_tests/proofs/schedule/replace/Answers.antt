use Rattle.std.proofs.Common.{◌∷◌, ◌++◌, ℕ, List, [], Option, Some, None, sym, arith, subst}
use Rattle.sdd_world.specs.Counting.{Counted, OwnersAreCounted, kept_by}
use Rattle.sdd_world.specs.Holding.{Hold, SharedIn, SharedItem}
use Rattle.sdd_world.specs.Place.{IsSharedCell}
use Rattle.sdd_world.specs.State.{State, with_cell}
use Rattle.sdd_world.specs.Tokens.{shared_cell, shared_slot}
use Rattle.sdd_world.specs.declared.status.Cell.TheVariants as cell
use Rattle.sdd_world.specs.declared.tag.Tag.{Tag}
use Rattle.sdd_world.specs.declared.tag.Tag.TheVariants as tag
use Rattle.sdd_world.proofs.CountLemmas.{owners_are_counted}
use Rattle.version_views.specs.Items.{held_by}
use Rattle.local_versions.specs.Placing.{owner_given_back}
use Rattle.version_views.specs.declared.item.Item.{Item}
use Rattle.version_tests.proofs.Settled.{counted_first}
use Rattle.version_tests.proofs.schedule.replace.Goals as goal

-- what the cell kept is given back, and the rest stays counted
counted_back : (p : ℕ) (o : Option ℕ) (t : Tag) (hand : List Hold) (w : State (Item ℕ ℕ 2)) → OwnersAreCounted {T = Item ℕ ℕ 2} held_by → Counted held_by (kept_by (cell.OfShared o t) ++ hand) w → Counted held_by hand (owner_given_back p o w)
counted_back p None t hand w owners h = h
counted_back p (Some i) t hand w owners h = owners.given p (SharedItem i) hand w h

pub publish-requires : goal.publish-requires
publish-requires c =
    let owners : OwnersAreCounted {T = Item ℕ ℕ 2} held_by = owners_are_counted held_by in
    let root = shared_cell c.args.root.now in
    let rest : List Hold = SharedItem (shared_slot c.args.second) ∷ [] in
    (omega arith, (omega (arith, c.requires.participants), (owners.cell_in_hand root rest c.args.w.now c.requires.counted, λ i t e. owners.kept root i t (SharedIn root ∷ rest) c.args.w.now e c.requires.counted)))

pub returns-clause-counted : goal.returns-clause-counted
returns-clause-counted c =
    let owners : OwnersAreCounted {T = Item ℕ ℕ 2} held_by = owners_are_counted held_by in
    let Is : List Hold → State (Item ℕ ℕ 2) → Type 0 = λ hand w. Counted held_by hand w in
    let root = shared_cell c.args.root.now in
    let second = shared_slot c.args.second in
    let hand : List Hold = SharedIn root ∷ [] in
    let used : IsSharedCell c.args.w.now root = owners.cell_in_hand root (SharedItem second ∷ []) c.args.w.now c.requires.counted in
    let one : Is (SharedItem second ∷ hand) c.args.w.now = counted_first hand (SharedItem second) [] c.args.w.now c.requires.counted in
    let two = owners.cell_swapped root used.item (Some second) used.tag tag.None hand c.args.w.now used.inside used.is one in
    subst (Is hand) (sym (c.publish.ensures.published used.item used.tag used.is)) (counted_back 1 used.item used.tag hand (with_cell root (cell.OfShared (Some second) tag.None) c.args.w.now) owners two)
