use Rattle.std.proofs.Common.{rules}
use Rattle.domain_table.proofs.Closes.{ends_all}
use Rattle.domain_table.proofs.cells.close.Goals as goal

pub store-requires : goal.store-requires
store-requires g c = let r = c.requires.open in (search rules, search rules, ends_all _ _ _ _ _ c.args.number c.args.epoch _ c.requires.filled.0 r.1 r.0 r.2 r.3 r.4 c.requires.filled.1)
