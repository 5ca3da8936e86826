use Rattle.std.proofs.Common.{drop, take, sym, arith}
use Rattle.tree_nodes.specs.declared.leaf.Leaf.{Leaf}
use Rattle.tree_nodes.proofs.ExtendLemmas.{IsAppended, living_of, found_takes, leaf_rising, run_length, appended, extended_sound, extended_takes, extended_pairs, extended_headroom}
use Rattle.tree_nodes.proofs.arenas.Arenas.extend_at.Given.{Over}
use Rattle.tree_nodes.proofs.arenas.Arenas.extend_at.Goals.{In_ok-extend-in-Some}
use Rattle.tree_nodes.proofs.arenas.Arenas.extend_at.Goals as goal

-- the leaf with the run
abbrev run : (g : Over) (c : In_ok-extend-in-Some g) → IsAppended g.K.Ord.cmp c.args.self.now c.args.at c.args.count (take c.args.count (drop c.args.from c.args.source.now.array.pairs)) c.extend.new.self
run g c =
    let a = c.args.self.now in
    let ps = c.args.source.now.array.pairs in
    let e = c.extend.ensures in
    let done = c.in_ok-extend-in-Some.ensures in
    appended g.K.Ord.cmp g.met.K.Ord.total a c.requires.sound c.args.at c.args.count (found_takes a c.args.at c.args.count c.requires.room c.in-Some.leaf.now (sym c.in-Some.ensures.value)) c.requires.some (take c.args.count (drop c.args.from ps)) (run_length c.args.from c.args.count ps c.requires.within) c.requires.rising c.extend.new.self done.pairs done.used e.frozen e.prev e.next

pub extend-requires-clause-living : goal.extend-requires-clause-living
extend-requires-clause-living g c =
    let l : Leaf g.row.K.Denot g.row.V.Denot = c.in-Some.leaf.now in
    living_of l.array.retired l.array.pairs (λ r. omega (arith, c.len.ensures.count, c.len.ensures.living r)) (found_takes c.args.self.now c.args.at c.args.count c.requires.room l (sym c.in-Some.ensures.value)).some

pub extend-requires-clause-packed : goal.extend-requires-clause-packed
extend-requires-clause-packed g c = (found_takes c.args.self.now c.args.at c.args.count c.requires.room c.in-Some.leaf.now (sym c.in-Some.ensures.value)).packed c.requires.some

pub extend-requires-clause-room : goal.extend-requires-clause-room
extend-requires-clause-room g c = (found_takes c.args.self.now c.args.at c.args.count c.requires.room c.in-Some.leaf.now (sym c.in-Some.ensures.value)).most

pub extend-requires-clause-rising : goal.extend-requires-clause-rising
extend-requires-clause-rising g c = leaf_rising c.args.self.now c.args.at c.args.count c.requires.room c.in-Some.leaf.now (sym c.in-Some.ensures.value) g.K.Ord.cmp g.met.K.Ord.total _ c.requires.rising

pub returns-clause-sound : goal.returns-clause-sound
returns-clause-sound g c = extended_sound (run g (goal.at.returns-clause-sound g c).In_ok-extend-in-Some)

pub returns-clause-room : goal.returns-clause-room
returns-clause-room g c = extended_takes (run g (goal.at.returns-clause-room g c).In_ok-extend-in-Some) c.requires.some

pub returns-clause-pairs : goal.returns-clause-pairs
returns-clause-pairs g c = extended_pairs (run g (goal.at.returns-clause-pairs g c).In_ok-extend-in-Some)

pub returns-clause-ascending : goal.returns-clause-ascending
returns-clause-ascending g c = extended_headroom (run g (goal.at.returns-clause-ascending g c).In_ok-extend-in-Some)
