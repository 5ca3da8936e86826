use Rattle.std.proofs.Common.{arith, refl, sym, subst, ◌<◌, ◌≤◌, ◌∷◌, [], length, drop, slice_index_or}
use Rattle.std.proofs.lemmas.Bool.{false≢true}
use Rattle.leaf_slots.specs.declared.place.Place.TheVariants.{Empty}
use Rattle.leaf_slots.specs.Places.{live_below}
use Rattle.leaf_slots.proofs.SearchLemmas.{below_past, below_most, below_stops}
use Rattle.leaf_slots.proofs.slots.Slots.lower.Goals as goal

pub returns-then-precedes-clause-place : goal.returns-then-precedes-clause-place
returns-then-precedes-clause-place g c =
    let eighth : 0 < live_below g.K.Ord.cmp c.args.key.now (slice_index_or c.args.self.now 7 Empty ∷ []) = rw (← c.self.view_is) (c.if-precedes.ensures.lesser.0 refl) in
    let past = below_past g.K.Ord.cmp c.args.key.now g.met.K.Ord.total 7 c.args.self.now c.requires.packed c.requires.sorted eighth in
    rw (past.0, ← c.self.view_is) c.lower.ensures.place

pub returns-then-precedes-clause-pair : goal.returns-then-precedes-clause-pair
returns-then-precedes-clause-pair g c =
    let eighth : 0 < live_below g.K.Ord.cmp c.args.key.now (slice_index_or c.args.self.now 7 Empty ∷ []) = rw (← c.self.view_is) (c.if-precedes.ensures.lesser.0 refl) in
    let past = below_past g.K.Ord.cmp c.args.key.now g.met.K.Ord.total 7 c.args.self.now c.requires.packed c.requires.sorted eighth in
    rw (past.1, ← c.self.view_is) c.lower.ensures.pair

pub returns-clause-place : goal.returns-clause-place
returns-clause-place g c = rw (← c.self.view_is) (omega (arith, c.lower-2.ensures.place))

pub returns-then-precedes-clause-cost : goal.returns-then-precedes-clause-cost
returns-then-precedes-clause-cost g c =
    let most = subst (λ ps. live_below g.K.Ord.cmp c.args.key.now (drop 8 ps) ≤ length (drop 8 ps)) (sym c.self.view_is) (below_most g.K.Ord.cmp c.args.key.now (drop 8 c.args.self.now)) in
    omega (arith, c.lower.ensures.cost, c.if-precedes.ensures.cost, most)

pub returns-clause-cost : goal.returns-clause-cost
returns-clause-cost g c =
    let stops = below_stops g.K.Ord.cmp c.args.key.now 7 c.args.self.now (rw (← c.self.view_is) (λ h. false≢true (c.if-precedes.ensures.lesser.1 h))) in
    let most = subst (λ ps. live_below g.K.Ord.cmp c.args.key.now ps ≤ 7) (sym c.self.view_is) stops in
    omega (arith, c.lower-2.ensures.cost, c.if-precedes.ensures.cost, most)
