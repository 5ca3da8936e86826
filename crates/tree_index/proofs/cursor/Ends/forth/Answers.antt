use Rattle.std.proofs.Common.{◌≡◌, ℕ, sym, subst}
use Rattle.std.specs.Range.Bound.{bound_map}
use Rattle.std.specs.Borrow.{Bor}
use Rattle.tree_nodes.specs.declared.walk.Position.{Position}
use Rattle.tree_index.specs.declared.cursor.End.{End}
use Rattle.tree_index.specs.declared.cursor.End.TheVariants.{At}
use Rattle.tree_nodes.specs.Content.{pairs_of}
use Rattle.tree_index.specs.Cursor.{forth}
use Rattle.tree_nodes.specs.Walk.{position}
use Rattle.tree_index.specs.Ends.{end_position}
use Rattle.tree_nodes.proofs.SpotLemmas.{spot_pair}
use Rattle.tree_index.proofs.EndLemmas.{forth_first, forth_next}
use Rattle.tree_index.proofs.cursor.Ends.forth.Goals as goal

pub returns-in-Some-clause-place : goal.returns-in-Some-clause-place
returns-in-Some-clause-place g c =
    let cmp = g.K.Ord.cmp in
    let a = c.args.self.now.arenas.now in
    let lower = bound_map (λ (k : Bor g.row.K.Denot). k.now) c.args.lower in
    let n : ℕ = position a c.in-Some.spot in
    let within = (spot_pair cmp a c.requires.sound c.in-Some.spot c.in-Some.ensures.spot).1 in
    subst (λ (e : End (Position g.row.K.Denot g.row.V.Denot)). ◌≡◌ {A = End ℕ} (At n) (forth cmp lower (pairs_of a) (end_position a e))) (sym c.in-Unopened.is) (forth_first cmp lower (pairs_of a) n within c.in-Some.ensures.there)

pub returns-in-Some-behind-clause-place : goal.returns-in-Some-behind-clause-place
returns-in-Some-behind-clause-place g c =
    let cmp = g.K.Ord.cmp in
    let a = c.args.self.now.arenas.now in
    let lower = bound_map (λ (k : Bor g.row.K.Denot). k.now) c.args.lower in
    let n : ℕ = position a c.in-Some-behind.next in
    let within = (spot_pair cmp a c.requires.sound c.in-Some-behind.next c.in-Some-behind.ensures.spot).1 in
    subst (λ (e : End (Position g.row.K.Denot g.row.V.Denot)). ◌≡◌ {A = End ℕ} (At n) (forth cmp lower (pairs_of a) (end_position a e))) (sym c.in-At.is) (forth_next cmp lower (pairs_of a) n within (position a c.in-At.spot) c.in-Some-behind.ensures.there)
