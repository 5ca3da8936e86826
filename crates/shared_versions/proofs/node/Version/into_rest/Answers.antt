use Rattle.std.proofs.Common.{sym, subst}
use Rattle.std.specs.List.{All}
use Rattle.shared_versions.specs.Nodes.{OwnsItem, holds_in, own_segments}
use Rattle.shared_versions.proofs.OwnerLemmas.{rows_held}
use Rattle.shared_versions.proofs.node.Version.into_rest.Goals as goal

pub invariant_of-result : goal.invariant_of-result
invariant_of-result g c = subst (λ rs. All OwnsItem (holds_in rs)) (sym c.into_rows.ensures) (rows_held (own_segments c.self.inside.own.items) c.self.inside.directory.rows.items c.self.invariant.owned)
