use Rattle.std.proofs.Common.{sym, arith}
use Rattle.tree_nodes.proofs.NodeLemmas.{leaf_not_none}
use Rattle.tree_nodes.proofs.DetachLemmas.{IsForkOver, old_node, place_most, gone_counted, done_without, done_sound, done_loose}
use Rattle.tree_nodes.proofs.arenas.Arenas.detach.Given.{Over}
use Rattle.tree_nodes.proofs.arenas.Arenas.detach.Goals.{In-Some-get_mut}
use Rattle.tree_nodes.proofs.arenas.Arenas.detach.Goals as goal

-- the leaf and the node above it, where both are found
abbrev found : (g : Over) (c : In-Some-get_mut g) → IsForkOver g.K.Ord.cmp c.args.self.now c.args.fork c.args.leaf c.in-Some.gone.now c.in-Some-get_mut.node.now
found g c = record {
  total = g.met.K.Ord.total;
  sound = c.requires.sound;
  key = c.requires.fork.0;
  fork = c.requires.fork.1;
  on = c.requires.fork.2;
  here = sym c.in-Some.ensures;
  there = sym c.in-Some-get_mut.ensures.value;
}

pub overflow_sub-self : goal.overflow_sub-self
overflow_sub-self g c =
    let fork = c.requires.fork.1 in
    let at : IsForkOver g.K.Ord.cmp c.args.self.now c.args.fork c.args.leaf c.in-Some.gone.now fork.node = record { total = g.met.K.Ord.total; sound = c.requires.sound; key = c.requires.fork.0; fork = fork; on = c.requires.fork.2; here = sym c.in-Some.ensures; there = fork.there } in
    rw c.len.ensures.count (gone_counted at)

pub unreachable-requires : goal.unreachable-requires
unreachable-requires g c =
    let key = c.requires.fork.0 in
    let fork = c.requires.fork.1 in
    leaf_not_none g.K.Ord.cmp g.met.K.Ord.total key c.args.self.now c.requires.sound (λ e. omega (arith, e, fork.above)) c.args.leaf c.requires.fork.2 (sym (rw c.in-None.is at c.get.ensures))

pub shed-requires-clause-node : goal.shed-requires-clause-node
shed-requires-clause-node g c = old_node (found g (goal.at.shed-requires-clause-node g c).In-Some-get_mut)

pub shed-requires-clause-within : goal.shed-requires-clause-within
shed-requires-clause-within g c = place_most (found g (goal.at.shed-requires-clause-within g c).In-Some-get_mut)

pub returns-clause-sound : goal.returns-clause-sound
returns-clause-sound g c =
    let at = (goal.at.returns-clause-sound g c).In-Some-get_mut in
    done_sound (found g at) c.shed.new.self c.shed.ensures.node c.shed.ensures.inner (λ h. (c.shed.ensures.outer h, c.shed.ensures.last h)) c.join.new.leaves c.join.ensures.arrays c.join.ensures.links c.len.result c.len.ensures.count

pub returns-clause-without : goal.returns-clause-without
returns-clause-without g c =
    let at = (goal.at.returns-clause-without g c).In-Some-get_mut in
    done_without (found g at) c.shed.new.self c.shed.ensures.node c.shed.ensures.inner (λ h. (c.shed.ensures.outer h, c.shed.ensures.last h)) c.join.new.leaves c.join.ensures.arrays c.join.ensures.links c.len.result c.len.ensures.count

pub returns-clause-loose : goal.returns-clause-loose
returns-clause-loose g c =
    let at = (goal.at.returns-clause-loose g c).In-Some-get_mut in
    done_loose (found g at) c.shed.new.self c.shed.ensures.node c.shed.ensures.inner (λ h. (c.shed.ensures.outer h, c.shed.ensures.last h)) c.join.new.leaves c.join.ensures.arrays c.join.ensures.links c.len.result c.len.ensures.count
