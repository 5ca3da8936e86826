use Rattle.std.proofs.Common.{◌≡◌, ◌≤◌, ◌-◌, ℕ, suc, sym, ap, ◌∙◌, subst, arith}
use Rattle.tree_nodes.specs.Shape.{way}
use Rattle.tree_nodes.specs.Content.{content_of}
use Rattle.tree_nodes.proofs.WayLemmas.{IsStep}
use Rattle.tree_nodes.proofs.NodeLemmas.{tree_there, tree_step}
use Rattle.tree_nodes.proofs.PruneLemmas.{IsForkTo, each_some, on_next, fork_here, fork_above}
use Rattle.tree_nodes.proofs.arenas.Arenas.find_fork.Given.{Over}
use Rattle.tree_nodes.proofs.arenas.Arenas.find_fork.Goals.{After-turn-place}
use Rattle.tree_nodes.proofs.arenas.Arenas.find_fork.Goals as goal

-- one step down from a node on the way
module _ (g : Over) (c : After-turn-place g) where
  abbrev h : ℕ
  h = c.loop-height.height - 1

  deeper : c.loop-height.height ≡ suc h
  deeper = omega arith

  within : suc h ≤ c.args.self.now.height
  within = omega (arith, c.loop-height.invariant.within)

  on : c.loop-height.at ≡ way g.K.Ord.cmp (content_of c.args.self.now) c.args.key.now (c.args.self.now.height - suc h) c.args.self.now.root
  on = c.loop-height.invariant.on ∙ ap (λ (m : ℕ). way g.K.Ord.cmp (content_of c.args.self.now) c.args.key.now (c.args.self.now.height - m) c.args.self.now.root) deeper

  s : IsStep g.K.Ord.cmp c.args.key.now (content_of c.args.self.now) h 0 c.loop-height.at c.turn-place.result.1
  s = rw c.turn-place.ensures.child (tree_step g.K.Ord.cmp c.args.self.now c.loop-height.height c.loop-height.at c.loop-height.invariant.tree (omega arith) c.args.key.now 0 c.in-Some.node.now (sym c.in-Some.ensures))

  next : c.turn-place.result.1 ≡ way g.K.Ord.cmp (content_of c.args.self.now) c.args.key.now (c.args.self.now.height - h) c.args.self.now.root
  next = c.turn-place.ensures.child ∙ on_next g.K.Ord.cmp c.args.key.now c.args.self.now h c.loop-height.at c.in-Some.node.now (sym c.in-Some.ensures) within on

pub unreachable-requires : goal.unreachable-requires
unreachable-requires g c = tree_there g.K.Ord.cmp c.args.self.now c.loop-height.height c.loop-height.at c.loop-height.invariant.tree (omega arith) (rw c.in-None.is at c.get.ensures)

pub loop-height-preserved-then-not-is_single : goal.loop-height-preserved-then-not-is_single
loop-height-preserved-then-not-is_single g c =
    let at = (goal.at.loop-height-preserved-then-not-is_single g c).After-turn-place in
    let down = s g at in
    let within = within g at in
    record {
      within = omega (arith, within);
      tree = λ _. (down.low, down.high, down.tree);
      on = next g at;
      fork = fork_here g.K.Ord.cmp c.args.key.now c.args.self.now (h g at) c.loop-height.at c.in-Some.node.now (sym c.in-Some.ensures) within (on g at) (c.is_single.ensures.more c.if-not-is_single.true) c.turn-place.result.0 c.turn-place.result.1 c.turn-place.ensures.place c.turn-place.ensures.child;
    }

pub loop-height-preserved : goal.loop-height-preserved
loop-height-preserved g c =
    let at = (goal.at.loop-height-preserved g c).After-turn-place in
    let down = s g at in
    let within = within g at in
    let fork = IsForkTo g.K.Ord.cmp c.args.key.now c.args.self.now in
    record {
      within = omega (arith, within);
      tree = λ _. (down.low, down.high, down.tree);
      on = next g at;
      fork = each_some (fork c.loop-height.height c.loop-height.at) (fork (h g at) c.turn-place.result.1) c.loop-height.fork (λ f p. fork_above g.K.Ord.cmp c.args.key.now c.args.self.now (h g at) c.loop-height.at c.in-Some.node.now (sym c.in-Some.ensures) within (on g at) (c.is_single.ensures.single c.if-not-is_single.false) c.turn-place.result.1 c.turn-place.ensures.child f (subst (λ (m : ℕ). fork m c.loop-height.at f) (deeper g at) p)) c.loop-height.invariant.fork;
    }
