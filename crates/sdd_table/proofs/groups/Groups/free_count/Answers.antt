use Rattle.std.proofs.Common.{◌∙◌, ap}
use Rattle.sdd_table.specs.Groups.{free_names}
use Rattle.sdd_table.proofs.groups.Groups.free_count.Goals as goal

pub returns : goal.returns
returns c = c.len.ensures ∙ c.self.inside.free.ok.0 ∙ c.self.invariant.names.count ∙ ap free_names c.self.view_is
