use Rattle.std.proofs.Common.{◌≡◌, ◌≤◌, Some, length, sym, ap, ◌∙◌, arith}
use Rattle.std.proofs.lemmas.Bool.{leb-true}
use Rattle.slab.specs.Slab.{get}
use Rattle.tree_nodes.specs.declared.leaf.Leaf.{Leaf}
use Rattle.tree_nodes.specs.Shape.{way}
use Rattle.tree_nodes.specs.Content.{content_of}
use Rattle.tree_nodes.proofs.DepthLemmas.{full_of}
use Rattle.tree_nodes.proofs.NodeLemmas.{leaf_not_none}
use Rattle.tree_nodes.proofs.arenas.Arenas.is_crowded.Goals as goal

pub unreachable-requires : goal.unreachable-requires
unreachable-requires g c =
    leaf_not_none g.K.Ord.cmp g.met.K.Ord.total c.args.key.now c.args.self.now c.requires.sound c.requires.planted c.args.at c.requires.on (sym (rw c.in-None.is at c.get.ensures))

pub returns-clause-full : goal.returns-clause-full
returns-clause-full g c t none =
    let cmp = g.K.Ord.cmp in
    let a = c.args.self.now in
    let l : Leaf g.row.K.Denot g.row.V.Denot = c.in-Some.leaf.now in
    let there : get a.leaves (way cmp (content_of a) c.args.key.now a.height a.root) ≡ Some l = ap (get a.leaves) (sym c.requires.on) ∙ sym c.in-Some.ensures in
    let long : 12 ≤ length l.array.pairs = omega (arith, c.len.ensures.count, leb-true 12 c.len.result t) in
    full_of cmp g.met.K.Ord.total c.args.key.now a l there c.len.ensures.most long (λ r. sym c.len.ensures.count ∙ c.len.ensures.living r) none
