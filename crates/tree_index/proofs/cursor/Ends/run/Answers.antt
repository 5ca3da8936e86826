use Rattle.std.proofs.Common.{◌≡◌, take, sym, subst}
use Rattle.std.specs.Prelude.{IfSome}
use Rattle.std.specs.declared.cmp.Ordering.TheVariants.{Less}
use Rattle.tree_nodes.specs.Content.{pairs_of}
use Rattle.tree_nodes.specs.Shape.{AllKeys}
use Rattle.tree_index.specs.Cursor.{pairs_from}
use Rattle.tree_index.specs.Ends.{end_position}
use Rattle.tree_index.proofs.cursor.Ends.run.Goals as goal

pub returns-in-At-clause-below : goal.returns-in-At-clause-below
returns-in-At-clause-below g c =
    let a = c.args.self.now.arenas.now in
    subst (λ e. IfSome c.args.upto (λ key. AllKeys (λ k. g.K.Ord.cmp k key.now ≡ Less) (take c.run_at.result (pairs_from (pairs_of a) (end_position a e))))) (sym c.in-At.is) c.run_at.ensures.below
