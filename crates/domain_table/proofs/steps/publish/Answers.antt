use Rattle.std.proofs.Common.{rules}
use Rattle.domain_table.proofs.Openings.{publishes_at}
use Rattle.domain_table.proofs.steps.publish.Goals as goal

pub store-requires : goal.store-requires
store-requires g c = let r = c.requires.read in (search rules, search rules, publishes_at _ _ _ _ _ _ c.args.number c.args.epoch _ r.1 r.0 r.2 r.3 c.word_of.ensures)
