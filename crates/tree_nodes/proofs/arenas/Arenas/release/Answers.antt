use Rattle.std.proofs.Common.{ap, ◌∙◌}
use Rattle.slab.specs.Slab.{get}
use Rattle.tree_nodes.specs.Shape.{leaf_pairs}
use Rattle.tree_nodes.proofs.FreeLemmas.{array_in}
use Rattle.tree_nodes.proofs.arenas.Arenas.release.Goals as goal

pub returns-clause-without : goal.returns-clause-without
returns-clause-without g c =
    let w = c.detach.ensures.without in
    record {
      front = w.front;
      back = w.back;
      was = w.was;
      now = c.lower.ensures.pairs ∙ c.free.ensures.pairs ∙ w.now;
      fore = w.fore;
      rear = w.rear;
      order_was = w.order_was;
      order = c.lower.ensures.order ∙ c.free.ensures.order ∙ w.order;
      kept = λ n d. ap (λ s. leaf_pairs (array_in (get s n))) c.lower.ensures.leaves ∙ c.free.ensures.held n d ∙ w.kept n d;
    }
