use Rattle.std.proofs.Common.{ap, ◌∙◌}
use Rattle.std.specs.declared.ops.Bound.TheVariants.{Unbounded}
use Rattle.std.proofs.lemmas.Result.{on_ok_weaker}
use Rattle.tree_index.specs.Cursor.{passed}
use Rattle.tree_index.proofs.index.TreeIndex.push_run.Goals as goal

pub returns-clause-passed : goal.returns-clause-passed
returns-clause-passed g c = on_ok_weaker c.push_run.result (λ h. h Unbounded Unbounded ∙ ap (passed c.args.count) c.source.view_is) c.push_run.ensures.passed
