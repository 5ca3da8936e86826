use Rattle.std.proofs.Common.{rules}
use Rattle.domain_table.proofs.Keeps.{keeps_home}
use Rattle.domain_table.proofs.cells.keep_home.Goals as goal

pub load-requires : goal.load-requires
load-requires g c = let o = c.requires.out in (search rules, search rules, keeps_home _ _ _ _ _ _ _ o.1.0 o.1.1 o.1.2 o.0 o.1.3)
