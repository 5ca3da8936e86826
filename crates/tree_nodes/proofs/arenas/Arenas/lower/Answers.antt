use Rattle.std.proofs.Common.{◌≡◌, ◌∙◌, refl, sym, ap, arith}
use Rattle.tree_nodes.specs.declared.node.InnerNode.{InnerNode}
use Rattle.tree_nodes.proofs.WayLemmas.{some_same}
use Rattle.tree_nodes.proofs.FreeLemmas.{lowered_sound, lowered_pairs, lowered_order}
use Rattle.tree_nodes.proofs.arenas.Arenas.lower.Goals as goal

pub loop-self-preserved : goal.loop-self-preserved
loop-self-preserved g c =
    let cmp = g.K.Ord.cmp in
    let a = c.loop-self.self in
    let i = c.loop-self.invariant in
    let only = c.loop-self-test.ensures refl in
    let gone : only.root ≡ c.remove.result = some_same (sym only.there ∙ c.remove.ensures.value) in
    let last = ap (λ (n : InnerNode g.row.K.Denot). n.last) gone ∙ sym c.into_last-self.ensures in
    record {
      sound = lowered_sound cmp a i.sound only c.into_last-self.result last c.remove.new.self c.remove.ensures.updates;
      pairs = lowered_pairs cmp a i.sound only c.into_last-self.result last c.remove.new.self c.remove.ensures.updates ∙ i.pairs;
      order = lowered_order cmp a i.sound only c.into_last-self.result last c.remove.new.self c.remove.ensures.updates ∙ i.order;
      leaves = i.leaves;
      depth = omega (arith, i.depth);
      planted = λ h e. omega (arith, only.tall, e);
    }
