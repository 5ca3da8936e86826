use Rattle.std.proofs.Common.{◌≡◌, ℕ, ◌-◌, sym, ap, ◌∙◌, arith}
use Rattle.tree_nodes.specs.Shape.{ArenaContent, way}
use Rattle.tree_nodes.specs.Content.{content_of}
use Rattle.tree_nodes.proofs.WayLemmas.{IsStep}
use Rattle.tree_nodes.proofs.NodeSplitLemmas.{way_more}
use Rattle.tree_nodes.proofs.NodeLemmas.{tree_there, tree_step}
use Rattle.tree_nodes.proofs.FocusLemmas.{over, over_is}
use Rattle.tree_nodes.proofs.arenas.Arenas.way_to.Goals as goal

pub unreachable-requires : goal.unreachable-requires
unreachable-requires g c = tree_there g.K.Ord.cmp c.args.self.now c.loop-height.height c.loop-height.at c.loop-height.invariant.tree (omega arith) (rw c.in-None.is at c.get.ensures)

pub loop-height-preserved : goal.loop-height-preserved
loop-height-preserved g c =
    let a : ArenaContent g.row.K.Denot g.row.V.Denot = content_of c.args.self.now in
    let cmp = g.K.Ord.cmp in
    let key = c.args.key.now in
    let root = c.args.self.now.root in
    let h : ℕ = c.loop-height.height - 1 in
    let gone : ℕ = c.args.self.now.height - c.loop-height.height in
    let s : IsStep cmp key a h 0 c.loop-height.at c.child-at.result = rw c.child-at.ensures (tree_step g.K.Ord.cmp c.args.self.now c.loop-height.height c.loop-height.at c.loop-height.invariant.tree (omega arith) key 0 c.in-Some.node.now (sym c.in-Some.ensures)) in
    let further : over gone 1 ≡ c.args.self.now.height - h = omega (arith, over_is gone 1, c.loop-height.invariant.most) in
    let back : gone ≡ c.args.self.now.height - h - 1 = omega (arith, c.loop-height.invariant.most) in
    record {
      most = omega (arith, c.loop-height.invariant.most);
      tree = λ _. (s.low, s.high, s.tree);
      leaf = s.same_way ∙ ap (λ (k : ℕ). way cmp a key 1 k) c.loop-height.invariant.leaf ∙ sym (way_more cmp a key gone 1 root) ∙ ap (λ (k : ℕ). way cmp a key k root) further;
      above = λ _. c.loop-height.invariant.leaf ∙ ap (λ (k : ℕ). way cmp a key k root) back;
    }
