use Rattle.std.proofs.Common.{arith}
use Rattle.tree_nodes.proofs.RunLemmas.{run_below, run_within}
use Rattle.tree_nodes.proofs.SpotLemmas.{spot_pair}
use Rattle.tree_nodes.proofs.arenas.Arenas.run_in.Goals as goal

pub returns-in_default-clause-within : goal.returns-in_default-clause-within
returns-in_default-clause-within g c =
    let a = c.args.self.now in
    let within = c.requires.spot.within in
    run_within g.K.Ord.cmp a c.requires.sound c.args.spot c.requires.spot _ (omega (arith, c.len.ensures.count, within)) (spot_pair g.K.Ord.cmp a c.requires.sound c.args.spot c.requires.spot).1

pub returns-clause-within : goal.returns-clause-within
returns-clause-within g c =
    let a = c.args.self.now in
    let within = c.requires.spot.within in
    run_within g.K.Ord.cmp a c.requires.sound c.args.spot c.requires.spot _ (omega (arith, c.insertion_point.ensures.most, c.saturating_sub.ensures, within)) (spot_pair g.K.Ord.cmp a c.requires.sound c.args.spot c.requires.spot).1

pub returns-clause-below : goal.returns-clause-below
returns-clause-below g c = rw c.in-Some.is (run_below g.K.Ord.cmp c.args.self.now c.requires.sound c.args.spot c.requires.spot g.met.K.Ord.total c.in-Some.key.now c.saturating_sub.result (omega (arith, c.saturating_sub.ensures, c.insertion_point.ensures.place)) (omega (arith, c.insertion_point.ensures.place, c.insertion_point.ensures.most)))
