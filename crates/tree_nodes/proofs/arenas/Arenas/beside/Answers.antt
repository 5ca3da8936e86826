use Rattle.std.proofs.Common.{◌<◌, ◌+◌, length, arith}
use Rattle.std.proofs.lemmas.Option.{slice_get_within}
use Rattle.tree_nodes.proofs.arenas.Arenas.beside.Goals as goal

pub returns-in-Some-clause-spot : goal.returns-in-Some-clause-spot
returns-in-Some-clause-spot g c =
    let spot = c.args.spot in
    let within : spot.place + 1 < length spot.leaf.now.array.pairs = slice_get_within _ _ _ c.in-Some.ensures in
    record { insertion_point = record { there = c.requires.spot.insertion_point.there; own = c.requires.spot.insertion_point.own; most = omega (arith, within) }; within = within }
