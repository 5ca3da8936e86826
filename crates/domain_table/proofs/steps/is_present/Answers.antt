use Rattle.std.proofs.Common.{rules}
use Rattle.domain_table.proofs.Looks.{agrees_with}
use Rattle.domain_table.proofs.steps.is_present.Goals as goal

pub load-requires : goal.load-requires
load-requires g c = let r = c.requires.2 in (search rules, search rules, agrees_with _ _ _ _ _ _ c.args.epoch r.0 r.2 r.4)
