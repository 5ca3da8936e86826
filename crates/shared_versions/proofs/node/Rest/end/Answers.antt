use Rattle.std.proofs.Common.{reverse, ap, ◌∙◌}
use Rattle.sdd_domain.specs.Holding.{told_of}
use Rattle.shared_versions.specs.Nodes.{holds_in}
use Rattle.shared_versions.proofs.OwnerLemmas.{none_told}
use Rattle.shared_versions.proofs.node.Rest.end.Goals as goal

pub end_rows-requires : goal.end_rows-requires
end_rows-requires g c = none_told told_of (holds_in c.self.inside.rows.items) (ap reverse c.self.view_is ∙ c.requires)
