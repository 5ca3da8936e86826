use Rattle.std.proofs.Common.{◌≡◌, sym, subst}
use Rattle.tree_nodes.specs.declared.walk.Position.{Position}
use Rattle.tree_index.specs.declared.cursor.End.{End}
use Rattle.tree_index.specs.declared.cursor.End.TheVariants.{At}
use Rattle.tree_index.specs.Cursor.{lies_before}
use Rattle.tree_nodes.specs.Walk.{position}
use Rattle.tree_index.specs.Ends.{end_position}
use Rattle.tree_index.proofs.cursor.precedes.Goals as goal

pub returns-in-At : goal.returns-in-At
returns-in-At g c =
    let a = c.args.arenas.now in
    subst (λ (e : End (Position g.row.K.Denot g.row.V.Denot)). c.comes_first.result ≡ lies_before (At (position a c.args.spot)) (end_position a e)) (sym c.in-At.is) c.comes_first.ensures
