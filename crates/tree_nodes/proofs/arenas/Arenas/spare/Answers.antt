use Rattle.std.proofs.Common.{refl, ap}
use Rattle.slab.specs.Slab.{Slab}
use Rattle.tree_nodes.specs.declared.leaf.Leaf.{Leaf}
use Rattle.tree_nodes.proofs.NodeLemmas.{roomier_sound, roomier_ascents}
use Rattle.tree_nodes.proofs.arenas.Arenas.spare.Goals as goal

pub returns-in_err-reserve-clause-sound : goal.returns-in_err-reserve-clause-sound
returns-in_err-reserve-clause-sound g c = roomier_sound g.K.Ord.cmp c.args.self.now c.reserve.new.self c.args.self.now.nodes (ap (λ (s : Slab (Leaf g.row.K.Denot g.row.V.Denot)). s.slots) c.reserve.ensures.rest_kept) refl c.requires

pub returns-in_err-reserve-clause-ascending : goal.returns-in_err-reserve-clause-ascending
returns-in_err-reserve-clause-ascending g c = roomier_ascents g.K.Ord.cmp c.args.self.now c.reserve.new.self c.args.self.now.nodes (ap (λ (s : Slab (Leaf g.row.K.Denot g.row.V.Denot)). s.slots) c.reserve.ensures.rest_kept) refl

pub returns-else-self-eq0-clause-sound : goal.returns-else-self-eq0-clause-sound
returns-else-self-eq0-clause-sound g c = roomier_sound g.K.Ord.cmp c.args.self.now c.reserve.new.self c.args.self.now.nodes (ap (λ (s : Slab (Leaf g.row.K.Denot g.row.V.Denot)). s.slots) c.reserve.ensures.rest_kept) refl c.requires

pub returns-else-self-eq0-clause-ascending : goal.returns-else-self-eq0-clause-ascending
returns-else-self-eq0-clause-ascending g c = roomier_ascents g.K.Ord.cmp c.args.self.now c.reserve.new.self c.args.self.now.nodes (ap (λ (s : Slab (Leaf g.row.K.Denot g.row.V.Denot)). s.slots) c.reserve.ensures.rest_kept) refl
