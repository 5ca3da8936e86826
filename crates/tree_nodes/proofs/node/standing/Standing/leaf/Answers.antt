use Rattle.std.proofs.Common.{refl, ◌∙◌}
use Rattle.tree_nodes.proofs.StandingLemmas.{around_self, around_within}
use Rattle.tree_nodes.proofs.node.standing.Standing.leaf.Goals as goal

pub loop-at-init : goal.loop-at-init
loop-at-init g c = record { arenas = refl; stands = c.requires; found = refl; around = around_self _ _ _ }

pub loop-at-preserved : goal.loop-at-preserved
loop-at-preserved g c = record {
  arenas = c.child-at.ensures.arenas ∙ c.loop-at.invariant.arenas;
  stands = c.child-at.ensures.stands;
  found = c.loop-at.invariant.found ∙ c.child-at.ensures.found;
  around = around_within _ _ _ _ _ c.child-at.ensures.around c.loop-at.invariant.around;
}
