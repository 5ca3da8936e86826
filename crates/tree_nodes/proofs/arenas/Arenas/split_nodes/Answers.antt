use Rattle.std.proofs.Common.{◌≡◌, ◌+◌, ◌-◌, sym, ap, ◌∙◌, subst, arith}
use Rattle.slab.specs.Slab.{slab_len}
use Rattle.tree_nodes.specs.declared.arenas.Arenas.{Arenas}
use Rattle.tree_nodes.specs.Content.{pairs_of, IsSound, NodeHasRoom, leaf_on_way}
use Rattle.tree_nodes.proofs.arenas.Arenas.split_nodes.Goals.{then-is_full, else-is_full}
use Rattle.tree_nodes.proofs.arenas.Arenas.split_nodes.Goals as goal

pub loop-left-preserved : goal.loop-left-preserved
loop-left-preserved g c =
    let i = c.loop-left.invariant in
    record {
      sound = i.sound;
      pairs = i.pairs;
      leaves = i.leaves;
      leaf = i.leaf;
      least = omega (arith, c.loop-left-test.true);
      most = omega (arith, i.most);
      room = c.is_full-in-loop-left.ensures.room c.if-is_full-2.false;
      nodes = omega (arith, i.nodes);
    }

pub loop-left-preserved-then-is_full-2 : goal.loop-left-preserved-then-is_full-2
loop-left-preserved-then-is_full-2 g c =
    let i = c.loop-left.invariant in
    let e = c.split_node.ensures in
    record {
      sound = e.sound;
      pairs = e.pairs ∙ i.pairs;
      leaves = e.leaves ∙ i.leaves;
      leaf = e.leaf ∙ i.leaf;
      least = omega (arith, c.loop-left-test.true);
      most = omega (arith, i.most, e.height);
      room = e.node;
      nodes = omega (arith, c.loop-left-test.true, i.nodes, e.used, e.capacity);
    }

pub loop-left-init : goal.loop-left-init
loop-left-init g c =
    let cmp = g.K.Ord.cmp in
    let key = c.args.key.now in
    elim c.if-is_full.branch [
      | then-is_full w ↦
          let e = w.grow_root.ensures in
          let height = ap (λ (a : Arenas g.row.K.Denot g.row.V.Denot). a.height) w.self-is in
          let used = ap (λ (a : Arenas g.row.K.Denot g.row.V.Denot). slab_len a.nodes) w.self-is in
          let capacity = ap (λ (a : Arenas g.row.K.Denot g.row.V.Denot). a.nodes.capacity) w.self-is in
          record {
            sound = subst (IsSound cmp) (sym w.self-is) e.sound;
            pairs = ap pairs_of w.self-is ∙ e.pairs;
            leaves = ap (λ (a : Arenas g.row.K.Denot g.row.V.Denot). a.leaves) w.self-is ∙ e.leaves;
            leaf = ap (leaf_on_way cmp key) w.self-is ∙ e.leaf;
            least = omega (arith, height, e.height);
            most = omega arith;
            room = subst (λ (a : Arenas g.row.K.Denot g.row.V.Denot). NodeHasRoom cmp key a a.height) (sym w.self-is) e.room;
            nodes = omega (arith, c.requires.nodes, height, used, capacity, e.height, e.used, e.capacity);
          }
      | else-is_full w ↦
          let height = ap (λ (a : Arenas g.row.K.Denot g.row.V.Denot). a.height) w.self-is in
          let used = ap (λ (a : Arenas g.row.K.Denot g.row.V.Denot). slab_len a.nodes) w.self-is in
          let capacity = ap (λ (a : Arenas g.row.K.Denot g.row.V.Denot). a.nodes.capacity) w.self-is in
          record {
            sound = subst (IsSound cmp) (sym w.self-is) c.requires.sound;
            pairs = ap pairs_of w.self-is;
            leaves = ap (λ (a : Arenas g.row.K.Denot g.row.V.Denot). a.leaves) w.self-is;
            leaf = ap (leaf_on_way cmp key) w.self-is;
            least = omega (arith, height, c.requires.planted);
            most = omega arith;
            room = subst (λ (a : Arenas g.row.K.Denot g.row.V.Denot). NodeHasRoom cmp key a a.height) (sym w.self-is) (c.is_full.ensures.room w.if-is_full.false);
            nodes = omega (arith, c.requires.nodes, height, used, capacity);
          }
    ]

pub returns-clause-lowest : goal.returns-clause-lowest
returns-clause-lowest g c = c.node_at-2.ensures

pub returns-clause-room : goal.returns-clause-room
returns-clause-room g c =
    let i = c.loop-left.invariant in
    let one : c.loop-left.left ≡ 1 = omega (arith, c.loop-left-test.false, i.least) in
    subst (NodeHasRoom g.K.Ord.cmp c.args.key.now c.loop-left.self) one i.room

pub split_node-requires-clause-parent : goal.split_node-requires-clause-parent
split_node-requires-clause-parent g c =
    let above : c.loop-left.left ≡ c.loop-left.left - 1 + 1 = omega (arith, c.loop-left-test.true) in
    subst (NodeHasRoom g.K.Ord.cmp c.args.key.now c.loop-left.self) above c.loop-left.invariant.room

pub split_node-requires-clause-room : goal.split_node-requires-clause-room
split_node-requires-clause-room g c = omega (arith, c.loop-left-test.true, c.loop-left.invariant.nodes)

pub is_full-requires-in-loop-left-clause-on : goal.is_full-requires-in-loop-left-clause-on
is_full-requires-in-loop-left-clause-on g c = c.node_at-in-loop-left.ensures
