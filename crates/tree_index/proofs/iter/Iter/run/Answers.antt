use Rattle.std.proofs.Common.{◌≡◌, take, subst}
use Rattle.std.specs.Prelude.{IfSome}
use Rattle.std.specs.declared.cmp.Ordering.TheVariants.{Less}
use Rattle.tree_nodes.specs.Shape.{AllKeys}
use Rattle.tree_index.specs.Cursor.{unread}
use Rattle.tree_index.proofs.iter.Iter.run.Goals as goal

pub returns-clause-below : goal.returns-clause-below
returns-clause-below g c = subst (λ cursor. IfSome c.args.upto (λ key. AllKeys (λ k. g.K.Ord.cmp k key.now ≡ Less) (take c.run.result (unread cursor)))) c.self.view_is c.run.ensures.below
