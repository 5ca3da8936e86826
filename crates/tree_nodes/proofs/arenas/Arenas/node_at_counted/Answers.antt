use Rattle.std.proofs.Common.{◌≡◌, ℕ, suc, ◌-◌, sym, ap, ◌∙◌, arith}
use Rattle.tree_nodes.specs.Shape.{ArenaContent, way}
use Rattle.tree_nodes.specs.Content.{content_of}
use Rattle.tree_nodes.proofs.WayLemmas.{IsStep}
use Rattle.tree_nodes.proofs.NodeLemmas.{tree_there, tree_step}
use Rattle.tree_nodes.proofs.arenas.Arenas.node_at_counted.Goals as goal

pub unreachable-requires : goal.unreachable-requires
unreachable-requires g c = tree_there g.K.Ord.cmp c.args.self.now c.loop-height.height c.loop-height.at c.loop-height.invariant.tree (omega arith) (rw c.in-None.is at c.get.ensures)

pub loop-height-preserved : goal.loop-height-preserved
loop-height-preserved g c =
    let a : ArenaContent g.row.K.Denot g.row.V.Denot = content_of c.args.self.now in
    let h : ℕ = c.loop-height.height - 1 in
    let steps : c.loop-height.height - c.args.left ≡ suc (h - c.args.left) = omega arith in
    let s : IsStep g.K.Ord.cmp c.args.key.now a h (h - c.args.left) c.loop-height.at c.child_counted-at.result = rw c.child_counted-at.ensures.child (tree_step g.K.Ord.cmp c.args.self.now c.loop-height.height c.loop-height.at c.loop-height.invariant.tree (omega arith) c.args.key.now (h - c.args.left) c.in-Some.node.now (sym c.in-Some.ensures)) in
    record {
      above = omega arith;
      tree = λ _. (s.low, s.high, s.tree);
      raised = omega (arith, c.loop-height.invariant.raised, c.child_counted-at.ensures.raised);
      cost = omega (arith, c.loop-height.invariant.cost, c.child_counted-at.ensures.cost);
      same = s.same_way ∙ ap (λ (n : ℕ). way g.K.Ord.cmp a c.args.key.now n c.loop-height.at) (sym steps) ∙ c.loop-height.invariant.same;
    }
