use Rattle.std.proofs.Common.{◌≡◌, ◌-◌, ℕ, suc, Some, None, sym, ap, ◌∙◌, subst, arith}
use Rattle.std.specs.Option.{option_map}
use Rattle.leaf_array.specs.Cells.{Cells}
use Rattle.tree_nodes.specs.declared.node.InnerNode.{InnerNode}
use Rattle.tree_nodes.specs.Shape.{ArenaContent, IsTree, leaves_under}
use Rattle.tree_nodes.specs.Content.{content_of}
use Rattle.tree_nodes.specs.Chain.{first_or}
use Rattle.tree_nodes.proofs.WalkLemmas.{IsEdge, first_step}
use Rattle.tree_nodes.proofs.arenas.Arenas.first_leaf.Goals as goal

pub loop-height-preserved : goal.loop-height-preserved
loop-height-preserved g c =
    let a : ArenaContent g.row.K.Denot g.row.V.Denot = content_of c.args.self.now in
    let h : ℕ = c.loop-height.height - 1 in
    let at = c.loop-height.at in
    let deeper : c.loop-height.height ≡ suc h = omega arith in
    let t = c.loop-height.invariant.tree in
    let n : Cells g.row.K.Denot ℕ × ℕ = (c.in-Some.node.now.children, c.in-Some.node.now.last) in
    let here : a.node at ≡ Some n = ap (option_map (λ (n : InnerNode g.row.K.Denot). (n.children, n.last))) (sym c.in-Some.ensures) in
    let s : IsEdge g.K.Ord.cmp a (first_or None) h at c.first-at.result = rw c.first-at.ensures (first_step g.K.Ord.cmp a h at n t.0 t.1 (subst (λ (k : ℕ). IsTree g.K.Ord.cmp a k at t.0 t.1) deeper t.2) here) in
    record {
      tree = (s.low, s.high, s.tree);
      same = s.same ∙ ap (λ (k : ℕ). first_or None (leaves_under a k at)) (sym deeper) ∙ c.loop-height.invariant.same;
    }
