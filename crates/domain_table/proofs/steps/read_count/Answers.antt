use Rattle.std.proofs.Common.{rules}
use Rattle.domain_table.proofs.Openings.{reads}
use Rattle.domain_table.proofs.steps.read_count.Goals as goal

pub load-requires : goal.load-requires
load-requires g c = (search rules, search rules, reads _ _ _ _ _ _ c.requires.closed.0 c.requires.closed.1 c.requires.closed.2)
