use Rattle.std.proofs.Common.{◌≤◌, ◌+◌, ◌-◌, ◌∷◌, [], length, map, refl, sym, ap, ◌∙◌, arith, subst}
use Rattle.std.proofs.lemmas.List.{map-append}
use Rattle.std.specs.Prelude.{vec_capacity}
use Rattle.sdd_world.specs.Groups.{group_named}
use Rattle.sdd_world.specs.Place.{TakeOwners, row_between}
use Rattle.sdd_world.specs.Steps.{times}
use Rattle.sdd_world.specs.Tokens.{kept_slot, loaded_slot}
use Rattle.version_drafts.specs.Parts.{segments_of}
use Rattle.version_drafts.specs.declared.segments.Part.TheVariants as parts
use Rattle.local_versions.specs.Placing.{CanTakeOver, HasPlaced, older_slot, part_slots, slots_at}
use Rattle.local_versions.proofs.StretchPlacingLemmas.{stretch_inside, stretch_takes, stretch_within}
use Rattle.local_versions.proofs.placing.place_part.Goals as goal

pub row_of-first-requires : goal.row_of-first-requires
row_of-first-requires g c = (
  omega arith,
  (
    ((subst (λ older. CanTakeOver c.args.w.now (older_slot older) (c.args.part ∷ [])) c.in-Some.is c.requires.there).there),
    (let w = c.args.w.now in
        let o = loaded_slot c.in-Some.at in
        let there = subst (λ p. CanTakeOver w o (p ∷ [])) c.in-Taken.is (subst (λ older. CanTakeOver w (older_slot older) (c.args.part ∷ [])) c.in-Some.is c.requires.there) in
        stretch_within w c.in-Taken.from c.in-Taken.upto o there),
  ),
)

pub keep_row-requires-clause-within : goal.keep_row-requires-clause-within
keep_row-requires-clause-within g c =
    let w = c.args.w.now in
    let o = loaded_slot c.in-Some.at in
    let there = subst (λ p. CanTakeOver w o (p ∷ [])) c.in-Taken.is (subst (λ older. CanTakeOver w (older_slot older) (c.args.part ∷ [])) c.in-Some.is c.requires.there) in
    (c.row_of-first.ensures.stretch c.in-Taken.upto (stretch_inside w c.in-Taken.from c.in-Taken.upto o there)).within

pub keep_row-requires-clause-takes : goal.keep_row-requires-clause-takes
keep_row-requires-clause-takes g c =
    let w = c.args.w.now in
    let o = loaded_slot c.in-Some.at in
    let from = c.in-Taken.from in
    let upto = c.in-Taken.upto in
    let there = subst (λ p. CanTakeOver w o (p ∷ [])) c.in-Taken.is (subst (λ older. CanTakeOver w (older_slot older) (c.args.part ∷ [])) c.in-Some.is c.requires.there) in
    let once = λ (j : _). subst (λ p. times j (part_slots (slots_at w o) p) ≤ 1) c.in-Taken.is (subst (λ older. times j (part_slots (slots_at w (older_slot older)) c.args.part) ≤ 1) c.in-Some.is (c.requires.once j)) in
    let stretch = c.row_of-first.ensures.stretch upto (stretch_inside w from upto o there) in
    subst (λ is. TakeOwners is w) (sym stretch.slots) (stretch_takes w from upto o there once)

pub keep_row-requires-clause-room : goal.keep_row-requires-clause-room
keep_row-requires-clause-room g c =
    let room = subst (λ p. length c.args.owners.now.items + segments_of p ≤ vec_capacity c.args.owners.now) c.in-Taken.is c.requires.room in
    omega (arith, room)

pub returns-in-Made-clause-placed : goal.returns-in-Made-clause-placed
returns-in-Made-clause-placed g c =
    let owner = c.place_segment.result in
    let e = c.place_segment.ensures in
    let names = ap (map kept_slot) c.push_reserved.ensures.items ∙ map-append kept_slot c.args.owners.now.items (owner ∷ []) in
    (kept_slot owner ∷ [], names, subst (λ p. HasPlaced (slots_at c.args.w.now (older_slot c.args.older)) p (kept_slot owner ∷ []) c.args.w.now c.place_segment.new.w) (sym c.in-Made.is) (kept_slot owner, refl, c.laws.ensures, e.free, e.placed, e.keeps))

pub returns-in-Some-clause-placed : goal.returns-in-Some-clause-placed
returns-in-Some-clause-placed g c =
    let w = c.args.w.now in
    let v = c.keep_row.new.w in
    let o = loaded_slot c.in-Some.at in
    let from = c.in-Taken.from in
    let upto = c.in-Taken.upto in
    let first = c.row_of-first.result.1 in
    let xs = row_between w (group_named c.row_of-first.result.0) first (first + (upto - from)) in
    let there = subst (λ p. CanTakeOver w o (p ∷ [])) c.in-Taken.is (subst (λ older. CanTakeOver w (older_slot older) (c.args.part ∷ [])) c.in-Some.is c.requires.there) in
    let stretch = c.row_of-first.ensures.stretch upto (stretch_inside w from upto o there) in
    let here : HasPlaced (slots_at w o) (parts.Taken from upto) xs w v = (stretch.slots, c.keep_row.ensures.raised) in
    (xs, c.keep_row.ensures.owners, subst (λ p. HasPlaced (slots_at w (older_slot c.args.older)) p xs w v) (sym c.in-Taken.is) (subst (λ older. HasPlaced (slots_at w (older_slot older)) (parts.Taken from upto) xs w v) (sym c.in-Some.is) here))
