use Rattle.std.proofs.Common.{subst, ◌≡◌}
use Rattle.sdd_table.specs.State.{State, local_at}
use Rattle.sdd_table.specs.Place.{IsOpen}
use Rattle.sdd_table.proofs.table.Table.any_open.Goals as goal

pub returns-clause-open : goal.returns-clause-open
returns-clause-open g c = λ yes. let r = c.any_open.ensures.open yes in (r.0, subst (λ (w : State _). IsOpen w r.0) c.self.view_is r.1)

pub returns-clause-none : goal.returns-clause-none
returns-clause-none g c = λ no p. subst (λ (w : State _). (local_at w p).nesting ≡ 0) c.self.view_is (c.any_open.ensures.none no p)
