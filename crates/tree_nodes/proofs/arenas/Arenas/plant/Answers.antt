use Rattle.std.proofs.Common.{◌≡◌, ◌≢◌, ℕ, Some, false, refl, sym, ap, ◌∙◌, arith, inr}
use Rattle.std.specs.Prelude.{length}
use Rattle.std.specs.Option.{option_map}
use Rattle.leaf_array.specs.Cells.{Cells, no_cells}
use Rattle.tree_nodes.specs.declared.leaf.Leaf.{Leaf}
use Rattle.tree_nodes.specs.declared.node.InnerNode.{InnerNode}
use Rattle.tree_nodes.specs.Shape.{ArenaContent}
use Rattle.tree_nodes.specs.Content.{content}
use Rattle.tree_nodes.proofs.GrowLemmas.{one_node, one_pairs, one_order}
use Rattle.tree_nodes.proofs.arenas.Arenas.plant.Goals as goal

pub returns-clause-sound : goal.returns-clause-sound
returns-clause-sound g c =
    let cmp = g.K.Ord.cmp in
    let r = c.requires.lone in
    let leaf = c.args.first in
    let root = c.insert_reserved-self.result in
    let b : ArenaContent g.row.K.Denot g.row.V.Denot = content c.args.self.now.leaves c.insert_reserved-self.new.self in
    let l : b.leaf leaf ≡ Some r.leaf.array = ap (option_map (λ (l : Leaf g.row.K.Denot g.row.V.Denot). l.array)) r.there in
    let n : b.node root ≡ Some (no_cells false, leaf) = ap (option_map (λ (n : InnerNode g.row.K.Denot). (n.children, n.last))) c.insert_reserved-self.ensures.updates.changed ∙ ap (λ (d : Cells g.row.K.Denot ℕ). Some (d, leaf)) c.new.ensures in
    let one : ◌≢◌ {A = ℕ} 1 0 = λ e. omega (arith, e) in
    record {
      stands = inr (one, one_node cmp b leaf root r.leaf.array l n r.is.thawed r.rising);
      linked = λ h. rw (one_order cmp b leaf root r.leaf.array l n) (ap (option_map (λ (l : Leaf g.row.K.Denot g.row.V.Denot). (l.prev, l.next))) r.there ∙ rw (r.is.prev, r.is.next) refl, tt);
      count = r.counted ∙ sym (ap length (one_pairs cmp b leaf root r.leaf.array l n));
    }
