use Rattle.std.proofs.Common.{List, ap, ◌∙◌}
use Rattle.std.specs.Range.Bound.{bound_map}
use Rattle.tree_index.specs.declared.cursor.End.TheVariants.{Unopened}
use Rattle.local_index.proofs.index.LocalIndex.range.Goals as goal

pub returns : goal.returns
returns g c = c.walk.ensures ∙ ap (λ (ps : List _). record { pairs = ps; lower = bound_map (λ k. k.now) c.args.lower; upper = bound_map (λ k. k.now) c.args.upper; forward = Unopened; backward = Unopened }) c.list_of.ensures.list
