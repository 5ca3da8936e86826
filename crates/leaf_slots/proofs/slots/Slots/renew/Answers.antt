use Rattle.std.proofs.Common.{arith, ◌+◌, ◌≤◌, ◌∷◌, drop, length, refl, sym, ◌∙◌}
use Rattle.leaf_slots.specs.declared.place.Place.TheVariants.{Empty}
use Rattle.leaf_slots.proofs.PlaceLemmas.{live_within, put_front, put_rest, row_from}
use Rattle.leaf_slots.proofs.slots.Slots.renew.Goals as goal

pub put-requires : goal.put-requires
put-requires g c = omega (arith, c.requires.count, live_within c.args.self.now c.args.at c.requires.live)

pub returns-clause-places : goal.returns-clause-places
returns-clause-places g c =
    let ps = c.args.self.now in
    let at = c.args.at in
    let within = live_within ps at c.requires.live in
    let most : at ≤ length ps = omega (arith, within) in
    let here = row_from ps at _ within (sym c.put.ensures.old ∙ c.in-Live.is) in
    rw (here, c.fill.ensures.places, c.put.ensures.places, put_front ps (Empty ∷ drop (at + 1) ps) at most, put_rest ps (drop (at + 1) ps) at Empty most) refl
