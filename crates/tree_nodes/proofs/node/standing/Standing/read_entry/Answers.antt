use Rattle.std.proofs.Common.{◌∙◌}
use Rattle.tree_nodes.proofs.node.standing.Standing.read_entry.Goals as goal

pub returns-in-Some : goal.returns-in-Some
returns-in-Some g c = (c.in-Some.stored, c.in-Some.value, c.leaf.ensures.found ∙ c.in-Some.ensures, c.f.ensures)
