use Rattle.sdd_world.specs.Tokens.{waiting_in}
use Rattle.sdd_world.proofs.PrivateCollectorLemmas.{handed_leaves}
use Rattle.sdd_world.proofs.FrameLemmas.{Keeps, keeps_seen}
use Rattle.sdd_world.proofs.world.private_collector.hand_over.Goals as goal

handed : (g : _) (c : goal.After-hand_over g) → Keeps c.args.p c.args.w.now c.hand_over.new.table
handed g c = keeps_seen c.args.p _ c.w.inside.table _ _ c.w.view_is c.hand_over.ensures c.w.invariant c.requires (handed_leaves c.args.p (waiting_in c.args.collector) c.w.inside.table c.w.invariant.sound)

pub invariant_of-w : goal.invariant_of-w
invariant_of-w g c = (handed g c).place

pub returns-clause-keeps : goal.returns-clause-keeps
returns-clause-keeps g c = (handed g c).frame

pub returns-clause-only : goal.returns-clause-only
returns-clause-only g c = (handed g c).only

pub returns-clause-nests : goal.returns-clause-nests
returns-clause-nests g c = (handed g c).nests
