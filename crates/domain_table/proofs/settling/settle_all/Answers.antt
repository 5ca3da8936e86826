use Rattle.std.proofs.Common.{rules}
use Rattle.domain_table.proofs.Settles.{settles}
use Rattle.domain_table.proofs.settling.settle_all.Goals as goal

pub load-requires : goal.load-requires
load-requires g c = let r = c.requires.read in (search rules, search rules, settles _ _ _ _ _ _ c.args.epoch r.0 r.1 r.2 c.requires.all)
