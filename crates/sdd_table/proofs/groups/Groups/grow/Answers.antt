use Rattle.std.proofs.Common.{arith}
use Rattle.sdd_table.proofs.ArenaLemmas.{few_names}
use Rattle.sdd_table.proofs.groups.Groups.grow.Goals as goal

pub overflow_sub-name : goal.overflow_sub-name
overflow_sub-name c =
    omega (arith, few_names c.self.inside c.self.invariant, c.self.inside.entries.ok.0, c.self.inside.free.ok.0, c.len.ensures, c.len-name.ensures)

pub push_reserved-requires-2 : goal.push_reserved-requires-2
push_reserved-requires-2 c =
    let few = few_names c.self.inside c.self.invariant in
    let room = c.in_ok-reserve-2.ensures in
    omega (arith, few, room.capacity, room.len, c.reserve-2.new.self.ok.0, c.self.inside.entries.ok.0, c.self.inside.free.ok.0, c.len.ensures, c.len-name.ensures)
