use Rattle.std.proofs.Common.{◌≡◌, ◌-◌, ℕ, sym, ap, ◌∙◌, arith}
use Rattle.leaf_array.specs.Cells.{lesser}
use Rattle.tree_index.specs.declared.cursor.End.TheVariants.{Unopened, At}
use Rattle.tree_nodes.specs.Content.{pairs_of}
use Rattle.tree_index.specs.Cursor.{whole}
use Rattle.tree_nodes.specs.Walk.{position}
use Rattle.tree_nodes.proofs.SpotLemmas.{spot_pair, has_there}
use Rattle.tree_index.proofs.proximity.locate_before.Goals as goal

pub returns-then-has_key : goal.returns-then-has_key
returns-then-has_key g c =
    let a = c.args.arenas.now in
    let place = c.requires.same ∙ c.requires.first in (
      has_there g.K.Ord.cmp g.met.K.Ord.total a c.requires.sound c.args.key.now c.args.larger c.requires.spot place ∙ sym c.has_key.ensures ∙ c.if-has_key.true,
      c.cursor.ensures ∙ ap (λ (n : ℕ). whole (pairs_of a) (At n) Unopened) place,
    )

pub returns-in-Some : goal.returns-in-Some
returns-in-Some g c =
    let a = c.args.arenas.now in
    let place : position a c.args.larger ≡ lesser g.K.Ord.cmp c.args.key.now (pairs_of a) = c.requires.same ∙ c.requires.first in
    let within = (spot_pair g.K.Ord.cmp a c.requires.sound c.args.larger c.requires.spot).1 in
    let before : position a c.in-Some.smaller ≡ lesser g.K.Ord.cmp c.args.key.now (pairs_of a) - 1 = omega (arith, c.in-Some.ensures.there, c.requires.first) in (
      has_there g.K.Ord.cmp g.met.K.Ord.total a c.requires.sound c.args.key.now c.args.larger c.requires.spot place ∙ sym c.has_key.ensures ∙ c.if-has_key.false,
      omega (arith, c.in-Some.ensures.there, c.requires.first),
      omega (arith, within, place),
      c.cursor-in-Some.ensures ∙ ap (λ (n : ℕ). whole (pairs_of a) (At n) (At (position a c.args.larger))) before ∙ ap (λ (n : ℕ). whole (pairs_of a) (At (lesser g.K.Ord.cmp c.args.key.now (pairs_of a) - 1)) (At n)) place,
    )

pub returns-in-None : goal.returns-in-None
returns-in-None g c =
    let a = c.args.arenas.now in
    let place : position a c.args.larger ≡ lesser g.K.Ord.cmp c.args.key.now (pairs_of a) = c.requires.same ∙ c.requires.first in
    let within = (spot_pair g.K.Ord.cmp a c.requires.sound c.args.larger c.requires.spot).1 in
    let none : position a c.args.larger ≡ 0 = c.requires.same ∙ c.in-None.ensures.none in (
      has_there g.K.Ord.cmp g.met.K.Ord.total a c.requires.sound c.args.key.now c.args.larger c.requires.spot place ∙ sym c.has_key.ensures ∙ c.if-has_key.false,
      sym place ∙ none,
      omega (arith, within),
      c.cursor-in-None.ensures ∙ ap (λ (n : ℕ). whole (pairs_of a) (At n) Unopened) none,
    )
