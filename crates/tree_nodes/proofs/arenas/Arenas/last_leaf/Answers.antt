use Rattle.std.proofs.Common.{◌≡◌, ◌-◌, ℕ, zero, suc, Some, None, sym, ap, ◌∙◌, subst, arith}
use Rattle.std.specs.Option.{option_map}
use Rattle.leaf_array.specs.Cells.{Cells}
use Rattle.tree_nodes.specs.declared.node.InnerNode.{InnerNode}
use Rattle.tree_nodes.specs.Shape.{ArenaContent, IsTree, leaves_under}
use Rattle.tree_nodes.specs.Content.{content_of, leaves_of}
use Rattle.tree_nodes.proofs.RowLemmas.{last_or, row_end}
use Rattle.tree_nodes.proofs.WalkLemmas.{IsEdge, last_step, last_is_own}
use Rattle.tree_nodes.proofs.arenas.Arenas.last_leaf.Given.{Over}
use Rattle.tree_nodes.proofs.arenas.Arenas.last_leaf.Goals.{After-loop-height}
use Rattle.tree_nodes.proofs.arenas.Arenas.last_leaf.Goals as goal

pub loop-height-preserved : goal.loop-height-preserved
loop-height-preserved g c =
    let a : ArenaContent g.row.K.Denot g.row.V.Denot = content_of c.args.self.now in
    let h : ℕ = c.loop-height.height - 1 in
    let at = c.loop-height.at in
    let deeper : c.loop-height.height ≡ suc h = omega arith in
    let t = c.loop-height.invariant.tree in
    let n : Cells g.row.K.Denot ℕ × ℕ = (c.in-Some.node.now.children, c.in-Some.node.now.last) in
    let here : a.node at ≡ Some n = ap (option_map (λ (n : InnerNode g.row.K.Denot). (n.children, n.last))) (sym c.in-Some.ensures) in
    let s : IsEdge g.K.Ord.cmp a (last_or None) h at c.in-Some.node.now.last = (last_step g.K.Ord.cmp a h at n t.0 t.1 (subst (λ (k : ℕ). IsTree g.K.Ord.cmp a k at t.0 t.1) deeper t.2) here) in
    record {
      tree = (s.low, s.high, s.tree);
      same = s.same ∙ ap (λ (k : ℕ). last_or None (leaves_under a k at)) (sym deeper) ∙ c.loop-height.invariant.same;
    }

-- where the way along the last children ends
last : (g : Over) (c : After-loop-height g) → last_or None (leaves_of c.args.self.now) ≡ Some c.loop-height.at
last g c =
    let flat : c.loop-height.height ≡ zero = omega (arith, c.loop-height-test.false) in
    sym c.loop-height.invariant.same ∙ ap (λ (k : ℕ). last_or None (leaves_under (content_of c.args.self.now) k c.loop-height.at)) flat

pub returns-clause-own : goal.returns-clause-own
returns-clause-own g c = (last_is_own g.K.Ord.cmp c.args.self.now c.requires c.if-self-eq0.false c.loop-height.at (last g (goal.at.returns-clause-own g c).After-loop-height)).0

pub returns-clause-last : goal.returns-clause-last
returns-clause-last g c = (last_is_own g.K.Ord.cmp c.args.self.now c.requires c.if-self-eq0.false c.loop-height.at (last g (goal.at.returns-clause-last g c).After-loop-height)).1

pub returns-clause-order : goal.returns-clause-order
returns-clause-order g c = row_end (leaves_of c.args.self.now) c.loop-height.at (last g (goal.at.returns-clause-order g c).After-loop-height)
