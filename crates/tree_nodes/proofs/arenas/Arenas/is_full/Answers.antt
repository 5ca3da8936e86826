use Rattle.std.proofs.Common.{◌≡◌, ◌≢◌, ◌==◌, false, sym, arith, ◌∙◌}
use Rattle.std.proofs.lemmas.Bool.{eqb-false}
use Rattle.tree_nodes.proofs.NodeLemmas.{node_is, node_not_none}
use Rattle.tree_nodes.proofs.arenas.Arenas.is_full.Goals as goal

pub is_full-requires : goal.is_full-requires
is_full-requires g c =
    node_is g.K.Ord.cmp g.met.K.Ord.total c.args.key.now c.args.self.now c.requires.sound c.args.left c.requires.least c.requires.most c.args.at c.requires.on c.in-Some.node.now (sym c.in-Some.ensures)

pub unreachable-requires : goal.unreachable-requires
unreachable-requires g c =
    node_not_none g.K.Ord.cmp g.met.K.Ord.total c.args.key.now c.args.self.now c.requires.sound c.args.left c.requires.least c.requires.most c.args.at c.requires.on (sym (rw c.in-None.is at c.get.ensures))

pub returns-clause-room : goal.returns-clause-room
returns-clause-room g c e =
    let used = c.in-Some.node.now.children.used in
    let not_all : (used == 15) ≡ false = sym c.is_full.ensures.full ∙ e in
    record {
      node = c.in-Some.node.now;
      there = rw c.requires.on at (sym c.in-Some.ensures);
      room = let few : used ≢ 15 = eqb-false used 15 not_all in omega (arith, few, c.is_full.ensures.within);
    }
