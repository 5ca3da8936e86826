use Rattle.std.proofs.Common.{rules}
use Rattle.domain_table.proofs.Openings.{counts}
use Rattle.domain_table.proofs.steps.count_under.Goals as goal

pub load-requires : goal.load-requires
load-requires g c = (search rules, search rules, counts _ _ _ _ _ _ c.args.epoch c.requires.open.0 c.requires.open.1)
