use Rattle.sdd_table.proofs.DropLemmas.{recalled_waits}
use Rattle.sdd_table.proofs.reclaim.reclaim_last.Goals as goal

pub reclaim_next-requires-clause-waits : goal.reclaim_next-requires-clause-waits
reclaim_next-requires-clause-waits g c = recalled_waits c.args.table.now c.unretire.new.self c.args.p c.unretire.ensures c.requires.sound c.requires.participant
