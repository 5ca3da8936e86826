use Rattle.std.proofs.Common.{length, ap, ◌∙◌}
use Rattle.local_index.proofs.index.LocalIndex.len.Goals as goal

pub returns : goal.returns
returns g c = c.len.ensures ∙ ap length c.list_of.ensures.list
