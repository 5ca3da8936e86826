use Rattle.sdd_table.specs.Holding.{OwnerGroup}
use Rattle.sdd_table.specs.Steps.{group_given}
use Rattle.sdd_table.specs.Groups.{name_of}
use Rattle.sdd_table.proofs.BagInvariantLemmas.{gives_given, leaves}
use Rattle.sdd_world.proofs.FrameLemmas.{Keeps, keeps_seen}
use Rattle.sdd_world.proofs.world.group.release.Goals as goal

given : (g : _) (c : goal.After-give_group g) → Keeps c.args.p c.args.w.now c.give_group.new.table
given g c =
    let w = c.w.inside.table in
    let p = c.args.p in
    let i = name_of c.args.group in
    keeps_seen p _ w _ (group_given p i w) c.w.view_is c.give_group.ensures c.w.invariant c.requires (λ known. leaves p w (group_given p i w) (gives_given w p (OwnerGroup i) c.w.invariant.sound known))

pub invariant_of-w : goal.invariant_of-w
invariant_of-w g c = (given g c).place

pub returns-clause-keeps : goal.returns-clause-keeps
returns-clause-keeps g c = (given g c).frame

pub returns-clause-only : goal.returns-clause-only
returns-clause-only g c = (given g c).only

pub returns-clause-nests : goal.returns-clause-nests
returns-clause-nests g c = (given g c).nests
