use Rattle.std.proofs.Common.{◌≡◌, sym, ap, ◌∙◌, subst}
use Rattle.std.specs.Ordering.{is_lt}
use Rattle.tree_nodes.specs.declared.walk.Position.{Position}
use Rattle.tree_index.specs.declared.cursor.End.{End}
use Rattle.tree_index.specs.declared.cursor.End.TheVariants.{At}
use Rattle.tree_index.specs.Cursor.{lies_before}
use Rattle.tree_nodes.specs.Walk.{IsPosition}
use Rattle.tree_index.specs.Ends.{IsEnd, end_position}
use Rattle.tree_nodes.proofs.SpotLemmas.{key_order}
use Rattle.tree_index.proofs.cursor.lies_before.Goals as goal

pub returns-in-At-At : goal.returns-in-At-At
returns-in-At-At g c =
    let a = c.args.arenas.now in
    let x = c.in-At-At.x in
    let y = c.in-At-At.y in
    let first : IsPosition a x = subst (IsEnd a) c.in-At-At.is-0 c.requires.first in
    let second : IsPosition a y = subst (IsEnd a) c.in-At-At.is-1 c.requires.second in
    let order = key_order g.K.Ord.cmp g.met.K.Ord.total a c.requires.sound x y first second _ _ c.pair.ensures c.pair-in-At-At.ensures in
    let answer : c.is_lt.result ≡ _ = c.is_lt.ensures ∙ ap is_lt c.cmp.ensures ∙ order in
    let stays : End (Position g.row.K.Denot g.row.V.Denot) → End (Position g.row.K.Denot g.row.V.Denot) → Type 0 = λ e f. c.is_lt.result ≡ lies_before (end_position a e) (end_position a f) in
    subst (λ f. stays c.args.a f) (sym c.in-At-At.is-1) (subst (λ e. stays e (At y)) (sym c.in-At-At.is-0) answer)
