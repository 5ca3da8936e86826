use Rattle.std.proofs.Common.{map, ap, ◌∙◌}
use Rattle.version_views.specs.Items.{keeping}
use Rattle.version_views.proofs.VersionLemmas.{kept_same}
use Rattle.version_views.proofs.trees.TableItemNoJobTrees.owners.Goals as goal

pub returns : goal.returns
returns g c = kept_same c.group_row.result.now ∙ ap (map keeping) c.group_row.ensures
