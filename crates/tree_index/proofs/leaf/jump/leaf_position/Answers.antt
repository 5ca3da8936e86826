use Rattle.std.proofs.Common.{◌+◌, sym, ap, ◌∙◌}
use Rattle.leaf_array.proofs.PackLemmas.{within_some}
use Rattle.tree_nodes.proofs.SpotLemmas.{spot_pair}
use Rattle.tree_index.proofs.LeafCursorLemmas.{ranked_above, spot_part, start_there, end_there}
use Rattle.tree_index.proofs.leaf.jump.leaf_position.Goals as goal

pub returns-clause-pair : goal.returns-clause-pair
returns-clause-pair g c = ranked_above c.args.spot.place c.args.spot.leaf.now.array.pairs ∙ sym (spot_pair g.K.Ord.cmp c.args.arenas.now c.requires.sound c.args.spot c.requires.spot).0

pub returns-clause-there : goal.returns-clause-there
returns-clause-there g c = rw (ranked_above c.args.spot.place c.args.spot.leaf.now.array.pairs) (within_some c.args.spot.leaf.now.array.pairs c.args.spot.place c.requires.spot.within)

pub returns-clause-part : goal.returns-clause-part
returns-clause-part g c = spot_part c.args.arenas.now c.args.spot c.requires.spot

pub returns-clause-first : goal.returns-clause-first
returns-clause-first g c b e = ap (λ n. n + 1) (sym (start_there g.K.Ord.cmp c.args.arenas.now c.requires.sound c.args.spot c.requires.spot b e))

pub returns-clause-last : goal.returns-clause-last
returns-clause-last g c b e = sym (end_there g.K.Ord.cmp c.args.arenas.now c.requires.sound c.args.spot c.requires.spot b e)
