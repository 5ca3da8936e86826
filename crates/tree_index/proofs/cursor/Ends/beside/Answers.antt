use Rattle.std.proofs.Common.{◌≡◌, ℕ, sym, subst}
use Rattle.tree_nodes.specs.declared.walk.Position.{Position}
use Rattle.tree_index.specs.declared.cursor.End.{End}
use Rattle.tree_index.specs.declared.cursor.End.TheVariants.{At}
use Rattle.tree_nodes.specs.Content.{pairs_of}
use Rattle.tree_index.specs.Cursor.{forth}
use Rattle.tree_nodes.specs.Walk.{position}
use Rattle.tree_index.specs.Ends.{end_position}
use Rattle.tree_nodes.proofs.SpotLemmas.{spot_pair}
use Rattle.tree_index.proofs.EndLemmas.{forth_next}
use Rattle.tree_nodes.proofs.WalkLemmas.{if_both}
use Rattle.tree_index.proofs.cursor.Ends.beside.Goals as goal

pub returns-in-At-clause-place : goal.returns-in-At-clause-place
returns-in-At-clause-place g c =
    let cmp = g.K.Ord.cmp in
    let a = c.args.self.now.arenas.now in
    let from : ℕ = position a c.in-At.spot in
    if_both
    c.beside.result
    (λ n is there lower. subst (λ (e : End (Position g.row.K.Denot g.row.V.Denot)). ◌≡◌ {A = End ℕ} (At (position a n.0)) (forth cmp lower (pairs_of a) (end_position a e))) (sym c.in-At.is) (forth_next cmp lower (pairs_of a) (position a n.0) (spot_pair cmp a c.requires.sound n.0 is).1 from there))
    c.beside.ensures.spot
    c.beside.ensures.there
