use Rattle.std.proofs.Common.{ℕ, subst}
use Rattle.sdd_table.specs.Groups.{IsFreeName}
use Rattle.sdd_table.specs.State.{State}
use Rattle.sdd_table.proofs.table.Table.has_no_group.Goals as goal

pub returns-clause-free : goal.returns-clause-free
returns-clause-free g c free = subst (λ (w : State _). (n : ℕ) × IsFreeName w.groups n) c.self.view_is (c.is_full.ensures.free free)
