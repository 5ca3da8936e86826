use Rattle.std.proofs.Common.{◌≡◌, None, false, sym}
use Rattle.std.specs.Range.Bound.{bound_map}
use Rattle.std.specs.BTreeMap.Range.{range_contains}
use Rattle.std.specs.Borrow.{Bor}
use Rattle.std.specs.declared.ops.Bound.{Bound}
use Rattle.tree_nodes.specs.Chain.{first_or}
use Rattle.tree_nodes.proofs.WalkLemmas.{own_there}
use Rattle.tree_nodes.proofs.WithoutLemmas.{without_same, without_own, without_fewer, without_passed, next_of}
use Rattle.tree_nodes.proofs.arenas.Arenas.remove_leaf.Given.{Over}
use Rattle.tree_nodes.proofs.arenas.Arenas.remove_leaf.Goals.{After-release}
use Rattle.tree_nodes.proofs.arenas.Arenas.remove_leaf.Goals as goal

module _ (g : Over) (c : After-release g) where
  abbrev lower : Bound g.row.K.Denot
  lower = bound_map (λ (k : Bor g.row.K.Denot). k.now) c.args.lower

  abbrev upper : Bound g.row.K.Denot
  upper = bound_map (λ (k : Bor g.row.K.Denot). k.now) c.args.upper

  -- the leaf behind the one that goes
  behind : c.in-Some.leaf.now.next ≡ first_or None c.release.ensures.without.rear
  behind = next_of g.K.Ord.cmp c.args.self.now c.release.new.self c.requires.sound c.args.at c.requires.own c.release.ensures.without c.in-Some.leaf.now (sym c.in-Some.ensures)

pub unreachable-requires : goal.unreachable-requires
unreachable-requires g c = own_there g.K.Ord.cmp c.args.self.now c.requires.sound c.args.at c.requires.own (sym (rw c.in-None.is at c.get.ensures))

pub returns-clause-own : goal.returns-clause-own
returns-clause-own g c =
    let at = (goal.at.returns-clause-own g c).After-release in
    without_own g.K.Ord.cmp (lower g at) (upper g at) c.args.self.now c.release.new.self c.requires.sound c.args.at c.requires.own c.release.ensures.without c.in-Some.leaf.now.next (behind g at) c.release.ensures.planted

pub returns-clause-passed : goal.returns-clause-passed
returns-clause-passed g c =
    let at = (goal.at.returns-clause-passed g c).After-release in
    without_passed g.K.Ord.cmp (lower g at) (upper g at) c.args.self.now c.release.new.self c.requires.sound c.args.at c.requires.own c.release.ensures.without c.in-Some.leaf.now.next (behind g at) (λ k. range_contains g.K.Ord.cmp (lower g at) (upper g at) k ≡ false) c.requires.passed

pub returns-clause-same : goal.returns-clause-same
returns-clause-same g c =
    let at = (goal.at.returns-clause-same g c).After-release in
    without_same g.K.Ord.cmp (lower g at) (upper g at) c.args.self.now c.release.new.self c.requires.sound c.args.at c.requires.own c.release.ensures.without c.requires.within

pub returns-clause-fewer : goal.returns-clause-fewer
returns-clause-fewer g c =
    let at = (goal.at.returns-clause-fewer g c).After-release in
    without_fewer g.K.Ord.cmp (lower g at) (upper g at) c.args.self.now c.release.new.self c.requires.sound c.args.at c.requires.own c.release.ensures.without c.in-Some.leaf.now.next (behind g at) c.release.ensures.sound c.release.ensures.planted
