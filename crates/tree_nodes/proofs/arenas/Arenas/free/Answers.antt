use Rattle.std.proofs.Common.{◌≡◌, ◌-◌, ℕ, suc, sym, ap, ◌∙◌, subst, arith}
use Rattle.slab.specs.Slab.{get}
use Rattle.tree_nodes.specs.declared.node.InnerNode.{InnerNode}
use Rattle.tree_nodes.specs.Shape.{leaf_pairs}
use Rattle.tree_nodes.specs.Chain.{times}
use Rattle.tree_nodes.specs.Content.{leaves_of}
use Rattle.tree_nodes.specs.Prune.{IsCutOff}
use Rattle.tree_nodes.proofs.FreeLemmas.{array_in, fewer, freed, freed_leaf}
use Rattle.tree_nodes.proofs.arenas.Arenas.free.Goals as goal

pub loop-height-preserved : goal.loop-height-preserved
loop-height-preserved g c =
    let a = c.loop-height.self in
    let i = c.loop-height.invariant in
    let at = c.loop-height.at in
    let height : ℕ = c.loop-height.height - 1 in
    let deeper : c.loop-height.height ≡ suc height = omega arith in
    let gone : InnerNode g.row.K.Denot = c.remove.result in
    let loose : IsCutOff a (suc height) at c.args.leaf = subst (λ (n : ℕ). IsCutOff a n at c.args.leaf) deeper i.loose in
    let r = freed g.K.Ord.cmp a i.sound i.loose.planted c.remove.new.self at c.remove.ensures.updates height c.args.leaf gone c.remove.ensures.value loose in
    record {
      sound = r.0;
      pairs = r.1 ∙ i.pairs;
      order = r.2 ∙ i.order;
      leaves = i.leaves;
      depth = i.depth;
      loose = subst (λ (n : ℕ). IsCutOff (fewer g.K.Ord.cmp a i.sound i.loose.planted c.remove.new.self at c.remove.ensures.updates) height n c.args.leaf) (sym c.into_last-at.ensures) r.3;
    }

pub returns-clause-sound : goal.returns-clause-sound
returns-clause-sound g c =
    let a = c.loop-height.self in
    let i = c.loop-height.invariant in
    let at = c.loop-height.at in
    let none : c.loop-height.height ≡ 0 = omega arith in
    let loose : IsCutOff a 0 at c.args.leaf = subst (λ (n : ℕ). IsCutOff a n at c.args.leaf) none i.loose in
    let out = ap (λ (n : ℕ). times n (leaves_of a)) loose.single ∙ loose.out in
    let r = freed_leaf g.K.Ord.cmp a i.sound i.loose.planted c.remove-2.new.self at c.remove-2.ensures.updates out in
    r.0

pub returns-clause-pairs : goal.returns-clause-pairs
returns-clause-pairs g c =
    let a = c.loop-height.self in
    let i = c.loop-height.invariant in
    let at = c.loop-height.at in
    let none : c.loop-height.height ≡ 0 = omega arith in
    let loose : IsCutOff a 0 at c.args.leaf = subst (λ (n : ℕ). IsCutOff a n at c.args.leaf) none i.loose in
    let out = ap (λ (n : ℕ). times n (leaves_of a)) loose.single ∙ loose.out in
    let r = freed_leaf g.K.Ord.cmp a i.sound i.loose.planted c.remove-2.new.self at c.remove-2.ensures.updates out in
    r.1 ∙ i.pairs

pub returns-clause-held : goal.returns-clause-held
returns-clause-held g c n d =
    let a = c.loop-height.self in
    let i = c.loop-height.invariant in
    let at = c.loop-height.at in
    let none : c.loop-height.height ≡ 0 = omega arith in
    let loose : IsCutOff a 0 at c.args.leaf = subst (λ (n : ℕ). IsCutOff a n at c.args.leaf) none i.loose in
    let out = ap (λ (n : ℕ). times n (leaves_of a)) loose.single ∙ loose.out in
    let r = freed_leaf g.K.Ord.cmp a i.sound i.loose.planted c.remove-2.new.self at c.remove-2.ensures.updates out in
    r.3 n (λ e. d (e ∙ loose.single)) ∙ ap (λ s. leaf_pairs (array_in (get s n))) i.leaves
