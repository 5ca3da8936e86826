use Rattle.std.proofs.Common.{refl}
use Rattle.sdd_table.specs.Steps.{released}
use Rattle.sdd_table.proofs.BagInvariantLemmas.{gives_released_as, leaves}
use Rattle.sdd_world.proofs.FrameLemmas.{Keeps, keeps_seen}
use Rattle.sdd_world.proofs.world.shared.release.Goals as goal

given : (g : _) (c : goal.After-release g) → Keeps c.args.p c.args.w.now c.release.new.table
given g c =
    let w = c.w.inside.table in
    let p = c.args.p in
    let i = c.spend_shared-slot.result in
    keeps_seen p _ w _ (released p i w) c.w.view_is c.release.ensures.state c.w.invariant c.requires.participant (λ known. leaves p w (released p i w) (gives_released_as w p i _ refl c.w.invariant.sound known))

pub invariant_of-w : goal.invariant_of-w
invariant_of-w g c = (given g c).place

pub returns-clause-keeps : goal.returns-clause-keeps
returns-clause-keeps g c = (given g c).frame

pub returns-clause-only : goal.returns-clause-only
returns-clause-only g c = (given g c).only

pub returns-clause-nests : goal.returns-clause-nests
returns-clause-nests g c = (given g c).nests
