use Rattle.std.proofs.Common.{arith}
use Rattle.sdd_table.proofs.table.Table.name_of.Goals as goal

pub overflow_cast-result : goal.overflow_cast-result
overflow_cast-result g c = omega (arith, c.if-prove.false, c.len.ensures, c.self.inside.states.ok.0, c.self.invariant.small)
