use Rattle.std.proofs.Common.{◌≡◌, ◌<◌, Some, refl, sym, ap, ◌∙◌, subst, arith}
use Rattle.std.proofs.lemmas.Option.{none-some}
use Rattle.slab.specs.Slab.{get, with_value, Updates}
use Rattle.slab.proofs.SlabLemmas.{Updates-with_value}
use Rattle.tree_nodes.specs.declared.node.InnerNode.{InnerNode}
use Rattle.tree_nodes.proofs.WayLemmas.{some_same}
use Rattle.tree_nodes.proofs.NodeLemmas.{node_is, same_len}
use Rattle.tree_nodes.proofs.NodeArenaLemmas.{IsNodeCut, none_before, old_node, old_there, absent_above, done_pairs, done_sound, done_way, done_room}
use Rattle.tree_nodes.proofs.arenas.Arenas.split_node.Given.{Over}
use Rattle.tree_nodes.proofs.arenas.Arenas.split_node.Goals.{In-Some-get_mut}
use Rattle.tree_nodes.proofs.arenas.Arenas.split_node.Goals as goal

-- the node that was split, and the one above it, where both are found
abbrev found : (g : Over) (c : In-Some-get_mut g) → IsNodeCut g.K.Ord.cmp c.args.key.now c.args.self.now c.args.left c.node_at-above.result c.node_at-child.result c.in-Some.node.now c.split.new.self c.split.result.1 c.in-Some-get_mut.node.now c.split.result.0 c.insert_reserved-fresh.new.self c.insert_reserved-fresh.result
found g c =
    let e = c.split.ensures in
    record {
      total = g.met.K.Ord.total;
      sound = c.requires.sound;
      least = c.requires.least;
      most = c.requires.most;
      on_above = c.node_at-above.ensures;
      on = c.node_at-child.ensures;
      here = sym c.in-Some.ensures.value;
      parts = e.parts;
      low_node = e.lower;
      up_node = e.upper;
      up_used = e.upper_room;
      low_used = e.lower_room;
      up_last = e.last;
      added = c.insert_reserved-fresh.ensures.updates;
      vacant = c.insert_reserved-fresh.ensures.was_vacant;
      there = sym c.in-Some-get_mut.ensures.value;
    }

pub split-requires-clause-node : goal.split-requires-clause-node
split-requires-clause-node g c =
    node_is g.K.Ord.cmp g.met.K.Ord.total c.args.key.now c.args.self.now c.requires.sound c.args.left c.requires.least (omega (arith, c.requires.most)) c.node_at-child.result c.node_at-child.ensures c.in-Some.node.now (sym c.in-Some.ensures.value)

pub insert-requires-clause-node : goal.insert-requires-clause-node
insert-requires-clause-node g c = old_node (found g (goal.at.insert-requires-clause-node g c).In-Some-get_mut)

pub insert-requires-clause-absent : goal.insert-requires-clause-absent
insert-requires-clause-absent g c = absent_above (found g (goal.at.insert-requires-clause-absent g c).In-Some-get_mut)

pub insert-requires-clause-room : goal.insert-requires-clause-room
insert-requires-clause-room g c =
    let parent = c.requires.parent in
    let there = old_there (found g (goal.at.insert-requires-clause-room g c).In-Some-get_mut) in
    let same : parent.node ≡ c.in-Some-get_mut.node.now = some_same (sym parent.there ∙ ap (get c.args.self.now.nodes) (sym c.node_at-above.ensures) ∙ there) in
    subst (λ (n : InnerNode g.row.K.Denot). n.children.used < 15) same parent.room

pub returns-clause-pairs : goal.returns-clause-pairs
returns-clause-pairs g c =
    let e = c.insert.ensures in
    done_pairs (found g (goal.at.returns-clause-pairs g c).In-Some-get_mut) c.insert.new.self e.node e.separators e.last

pub returns-clause-leaf : goal.returns-clause-leaf
returns-clause-leaf g c =
    let e = c.insert.ensures in
    done_way (found g (goal.at.returns-clause-leaf g c).In-Some-get_mut) c.insert.new.self e.node e.separators e.last

pub returns-clause-node : goal.returns-clause-node
returns-clause-node g c =
    let e = c.insert.ensures in
    done_room (found g (goal.at.returns-clause-node g c).In-Some-get_mut) c.insert.new.self e.node e.separators e.last

pub returns-clause-used : goal.returns-clause-used
returns-clause-used g c =
    let same = same_len c.insert_reserved-fresh.new.self c.node_at-above.result c.in-Some-get_mut.node.now c.insert.new.self (sym c.in-Some-get_mut.ensures.value) in
    let first = same_len c.args.self.now.nodes c.node_at-child.result c.in-Some.node.now c.split.new.self (sym c.in-Some.ensures.value) in
    omega (arith, same, first, c.insert_reserved-fresh.ensures.len)

pub returns-clause-sound : goal.returns-clause-sound
returns-clause-sound g c =
    let e = c.insert.ensures in
    let used = returns-clause-used g c in
    done_sound (found g (goal.at.returns-clause-sound g c).In-Some-get_mut) c.insert.new.self e.node e.separators e.last (omega (arith, used))

pub node_at-above-requires-clause-sound : goal.node_at-above-requires-clause-sound
node_at-above-requires-clause-sound g c = c.requires.sound

pub node_at-above-requires-clause-within : goal.node_at-above-requires-clause-within
node_at-above-requires-clause-within g c = omega (arith, c.requires.most)

pub node_at-child-requires-clause-sound : goal.node_at-child-requires-clause-sound
node_at-child-requires-clause-sound g c = c.requires.sound

pub node_at-child-requires-clause-within : goal.node_at-child-requires-clause-within
node_at-child-requires-clause-within g c = omega (arith, c.requires.most)

pub returns-clause-leaves : goal.returns-clause-leaves
returns-clause-leaves g c = refl

pub returns-clause-height : goal.returns-clause-height
returns-clause-height g c = refl

pub split-requires-clause-full : goal.split-requires-clause-full
split-requires-clause-full g c =
    let full = c.requires.full in
    let same : full.node ≡ c.in-Some.node.now = some_same (sym full.there ∙ ap (get c.args.self.now.nodes) (sym c.node_at-child.ensures) ∙ sym c.in-Some.ensures.value) in
    subst (λ (n : InnerNode g.row.K.Denot). n.children.used ≡ 15) same full.full

pub unreachable-unreachable : goal.unreachable-unreachable
unreachable-unreachable g c = none-some _ (c.in-None.ensures.value ∙ ap (get c.args.self.now.nodes) c.node_at-child.ensures ∙ c.requires.full.there)

pub insert_reserved-fresh-requires : goal.insert_reserved-fresh-requires
insert_reserved-fresh-requires g c =
    let first = same_len c.args.self.now.nodes c.node_at-child.result c.in-Some.node.now c.split.new.self (sym c.in-Some.ensures.value) in
    omega (arith, first, c.requires.room)

pub unreachable-unreachable-in-None-get_mut : goal.unreachable-unreachable-in-None-get_mut
unreachable-unreachable-in-None-get_mut g c =
    let nodes = c.args.self.now.nodes in
    let at = c.node_at-child.result in
    let above = c.node_at-above.result in
    let up : InnerNode g.row.K.Denot = c.split.new.self in
    let here : get nodes at ≡ Some c.in-Some.node.now = sym c.in-Some.ensures.value in
    let turned : Updates nodes (with_value nodes at up) at (Some up) = Updates-with_value nodes at up (rw here refl) in
    let none = none_before (with_value nodes at up) c.insert_reserved-fresh.new.self c.insert_reserved-fresh.result above c.split.result.1 c.insert_reserved-fresh.ensures.updates c.in-None-get_mut.ensures.value in
    none-some _ (none_before nodes (with_value nodes at up) at above up turned none ∙ ap (get nodes) c.node_at-above.ensures ∙ c.requires.parent.there)
