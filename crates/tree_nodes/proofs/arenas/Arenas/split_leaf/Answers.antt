use Rattle.std.proofs.Common.{◌≡◌, ◌<◌, ℕ, cond, Option, Some, sym, ap, ◌∙◌, subst}
use Rattle.std.specs.Ordering.{is_lt}
use Rattle.std.proofs.lemmas.Option.{none-some}
use Rattle.slab.specs.Slab.{get, with_value}
use Rattle.tree_nodes.specs.declared.leaf.Leaf.{Leaf}
use Rattle.tree_nodes.specs.declared.node.InnerNode.{InnerNode}
use Rattle.tree_nodes.specs.Chain.{leaf_links, linked_in}
use Rattle.tree_nodes.specs.SplitPoints.{IsSplitPoint}
use Rattle.tree_nodes.proofs.WayLemmas.{some_same}
use Rattle.tree_nodes.proofs.LeafArenaLemmas.{IsLeafCut, IsLeafSplit, was_thawed, old_node, absent_above, leaf_split}
use Rattle.tree_nodes.proofs.arenas.Arenas.split_leaf.Given.{Over}
use Rattle.tree_nodes.proofs.arenas.Arenas.split_leaf.Goals.{In-Some-get_mut, After-insert}
use Rattle.tree_nodes.proofs.arenas.Arenas.split_leaf.Goals as goal

-- the leaf and the node above it, where both are found
abbrev found : (g : Over) (c : In-Some-get_mut g) → IsLeafCut g.K.Ord.cmp c.args.key.now c.args.self.now c.args.above c.args.child c.in-Some.leaf.now c.in-Some-get_mut.node.now c.args.split_point
found g c =
    let cut = c.requires.split_point in
    let whole : Leaf g.row.K.Denot g.row.V.Denot = c.in-Some.leaf.now in
    let here : get c.args.self.now.leaves c.args.child ≡ Some whole = sym c.in-Some.ensures.value in
    let same : cut.leaf ≡ whole = some_same (sym cut.there ∙ ap (get c.args.self.now.leaves) (sym c.requires.on) ∙ here) in
    record {
      total = g.met.K.Ord.total;
      sound = c.requires.sound;
      planted = c.requires.planted;
      on_above = c.requires.lowest;
      on = c.requires.on;
      here = here;
      there = sym c.in-Some-get_mut.ensures.value;
      fits = subst (λ (l : Leaf g.row.K.Denot g.row.V.Denot). IsSplitPoint g.K.Ord.cmp c.args.key.now l.array.pairs c.args.split_point) same cut.fits;
      rising = c.split-lower.ensures.rising;
    }

-- what is left of the leaf
done : (g : Over) (c : After-insert g) → IsLeafCut g.K.Ord.cmp c.args.key.now c.args.self.now c.args.above c.args.child c.in-Some.leaf.now c.in-Some-get_mut.node.now c.args.split_point
    → IsLeafSplit g.K.Ord.cmp c.args.key.now c.args.self.now (record c.args.self.now { leaves = c.link.new.leaves; nodes = with_value c.args.self.now.nodes c.args.above c.insert.new.self }) (cond (is_lt (g.K.Ord.cmp c.args.split_point.separator c.args.key.now)) c.args.child c.insert_reserved-fresh.result)
done g c t =
    let e = c.split-lower.ensures in
    let f = c.insert_reserved-fresh in
    let prev = e.lower_prev ∙ sym e.prev in
    leaf_split t c.split-lower.new.self c.split-lower.result e.lower e.upper e.lower_rising e.upper_rising (e.lower_thawed (was_thawed t)) (e.upper_thawed (was_thawed t)) e.lower_living e.upper_living e.lower_used e.upper_used
    f.new.self c.link.new.leaves f.result f.ensures.updates f.ensures.was_vacant c.link.ensures.arrays
    (λ n. c.link.ensures.links n ∙ ap (λ (p : Option ℕ). linked_in f.result p c.args.child (leaf_links f.new.self) n) prev) e.prev e.next prev e.lower_next
    c.insert.new.self c.insert.ensures.node c.insert.ensures.separators c.insert.ensures.last e.upper_clear

pub insert-requires-clause-node : goal.insert-requires-clause-node
insert-requires-clause-node g c = old_node (found g (goal.at.insert-requires-clause-node g c).In-Some-get_mut)

pub insert-requires-clause-absent : goal.insert-requires-clause-absent
insert-requires-clause-absent g c = absent_above (found g (goal.at.insert-requires-clause-absent g c).In-Some-get_mut)

pub insert-requires-clause-room : goal.insert-requires-clause-room
insert-requires-clause-room g c =
    let parent = c.requires.parent in
    let same : parent.node ≡ c.in-Some-get_mut.node.now = some_same (sym parent.there ∙ ap (get c.args.self.now.nodes) (sym c.requires.lowest) ∙ sym c.in-Some-get_mut.ensures.value) in
    subst (λ (n : InnerNode g.row.K.Denot). n.children.used < 15) same parent.room

pub returns-clause-sound : goal.returns-clause-sound
returns-clause-sound g c = let at = goal.at.returns-clause-sound g c in (done g at.After-insert (found g at.In-Some-get_mut)).sound

pub returns-clause-pairs : goal.returns-clause-pairs
returns-clause-pairs g c = let at = goal.at.returns-clause-pairs g c in (done g at.After-insert (found g at.In-Some-get_mut)).pairs

pub returns-clause-room : goal.returns-clause-room
returns-clause-room g c = let at = goal.at.returns-clause-room g c in (done g at.After-insert (found g at.In-Some-get_mut)).room

pub returns-clause-ascending : goal.returns-clause-ascending
returns-clause-ascending g c = let at = goal.at.returns-clause-ascending g c in (done g at.After-insert (found g at.In-Some-get_mut)).ascending

pub returns-clause-on : goal.returns-clause-on
returns-clause-on g c =
    let at = goal.at.returns-clause-on g c in
    let fresh = c.insert_reserved-fresh.result in
    c.chosen.ensures ∙ ap (λ b. cond b c.args.child fresh) c.is_lt-is_upper.ensures ∙ ap (λ r. cond (is_lt r) c.args.child fresh) c.cmp.ensures ∙ (done g at.After-insert (found g at.In-Some-get_mut)).on

pub unreachable-unreachable : goal.unreachable-unreachable
unreachable-unreachable g c = none-some _ (c.in-None.ensures.value ∙ ap (get c.args.self.now.leaves) c.requires.on ∙ c.requires.split_point.there)

pub unreachable-unreachable-in-None-get_mut : goal.unreachable-unreachable-in-None-get_mut
unreachable-unreachable-in-None-get_mut g c = none-some _ (c.in-None-get_mut.ensures.value ∙ ap (get c.args.self.now.nodes) c.requires.lowest ∙ c.requires.parent.there)
