use Rattle.std.proofs.Common.{rules, arith}
use Rattle.domain_table.proofs.Ends.{ends_at}
use Rattle.domain_table.proofs.steps.end.Goals as goal

pub store-requires : goal.store-requires
store-requires g c = let r = c.requires.rests in let s = c.requires.spare in let here = s.0 in (search rules, search rules, ends_at _ _ _ _ _ _ c.args.number _ s.2.0 r.1 r.0 r.2 r.3 r.4 (omega arith) s.2.1)
