use Rattle.std.proofs.Common.{subst}
use Rattle.sdd_table.specs.Frame.{Frame}
use Rattle.sdd_table.specs.State.{State}
use Rattle.sdd_world.proofs.FrameLemmas.{keeps_added, place_added}
use Rattle.sdd_world.proofs.world.group.keep_row.Goals as goal

pub invariant_of-w : goal.invariant_of-w
invariant_of-w g c = place_added _ c.w.inside.table c.keep_group_row.new.self c.keep_group_row.ensures.raised c.w.invariant

pub returns-clause-keeps : goal.returns-clause-keeps
returns-clause-keeps g c = subst (λ (w : State _). Frame w c.keep_group_row.new.self) c.w.view_is (keeps_added _ c.w.inside.table c.keep_group_row.new.self c.keep_group_row.ensures.raised)
