use Rattle.sdd_table.proofs.SlotLemmas.{no_value, used_in}
use Rattle.sdd_table.proofs.table.Table.value.Goals as goal

pub unreachable-requires : goal.unreachable-requires
unreachable-requires g c =
    no_value c.self.inside c.args.i _ c.self.invariant (used_in c.self.inside c.args.self.now c.args.i _ c.self.view_is c.requires.used) c.index.ensures c.in-None.is
