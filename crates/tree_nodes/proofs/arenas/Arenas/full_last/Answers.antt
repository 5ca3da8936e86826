use Rattle.std.proofs.Common.{◌≡◌, sym, arith}
use Rattle.tree_nodes.proofs.AppendLemmas.{last_there}
use Rattle.tree_nodes.proofs.arenas.Arenas.full_last.Goals as goal

pub unreachable-requires-in_default-get : goal.unreachable-requires-in_default-get
unreachable-requires-in_default-get g c =
    let a = c.args.self.now in
    let flat : a.height ≡ 1 = omega (arith, c.if-self-gt1.false, c.requires.planted) in
    last_there g.K.Ord.cmp a c.requires.sound flat c.in-Some.root.now (sym c.in-Some.ensures) (sym (rw c.in_default-get.is at c.get-2.ensures))
