use Rattle.std.proofs.Common.{◌≡◌, ◌-◌, ℕ, length, sym, ap, ◌∙◌, arith}
use Rattle.tree_index.specs.declared.cursor.End.TheVariants.{Unopened, At}
use Rattle.tree_nodes.specs.Content.{pairs_of}
use Rattle.tree_index.specs.Cursor.{whole}
use Rattle.tree_nodes.specs.Walk.{position}
use Rattle.tree_nodes.proofs.InsertionPointLemmas.{included_is}
use Rattle.tree_index.proofs.proximity.locate.Goals as goal

pub locate_before-requires-clause-first : goal.locate_before-requires-clause-first
locate_before-requires-clause-first g c = c.in-Some.ensures.there ∙ included_is g.K.Ord.cmp g.met.K.Ord.total c.args.key.now (pairs_of c.args.arenas.now)

pub returns-in-Some-before : goal.returns-in-Some-before
returns-in-Some-before g c =
    let a = c.args.arenas.now in
    let first = c.in-Some.ensures.there ∙ included_is g.K.Ord.cmp g.met.K.Ord.total c.args.key.now (pairs_of a) in
    let place : position a c.in-Some-before.smaller ≡ length (pairs_of a) - 1 = omega (arith, c.in-Some-before.ensures.there, c.in-None.ensures.none) in
    (omega (arith, c.in-Some-before.ensures.there, c.in-None.ensures.none), sym first ∙ c.in-None.ensures.none, c.cursor.ensures ∙ ap (λ (n : ℕ). whole (pairs_of a) Unopened (At n)) place)
