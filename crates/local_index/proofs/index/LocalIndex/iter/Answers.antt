use Rattle.std.proofs.Common.{List, ap, ◌∙◌}
use Rattle.tree_index.specs.Cursor.{whole}
use Rattle.tree_index.specs.declared.cursor.End.TheVariants.{Unopened}
use Rattle.local_index.proofs.index.LocalIndex.iter.Goals as goal

pub returns : goal.returns
returns g c = c.walk.ensures ∙ ap (λ (ps : List _). whole ps Unopened Unopened) c.list_of.ensures.list
