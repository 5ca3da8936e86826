use Rattle.std.proofs.lemmas.List.Elements.{All-pop}
use Rattle.shared_versions.specs.Nodes.{OwnsItem, holds_in}
use Rattle.shared_versions.proofs.node.Rest.pop.Goals as goal

pub invariant_of-self : goal.invariant_of-self
invariant_of-self g c = (All-pop OwnsItem (holds_in c.self.inside.rows.items) (holds_in c.last_of.new.rows.items) c.last_of.result c.last_of.ensures.rest c.self.invariant).0
