use Rattle.std.proofs.Common.{ap, refl}
use Rattle.slab.specs.Slab.{Slab}
use Rattle.tree_nodes.specs.declared.node.InnerNode.{InnerNode}
use Rattle.tree_nodes.proofs.DepthLemmas.{on_err}
use Rattle.tree_nodes.proofs.NodeLemmas.{roomier_sound, roomier_ascents}
use Rattle.tree_nodes.proofs.arenas.Arenas.open_node.Goals as goal

pub returns-in_err-reserve-clause-sound : goal.returns-in_err-reserve-clause-sound
returns-in_err-reserve-clause-sound g c =
    roomier_sound g.K.Ord.cmp c.args.self.now c.args.self.now.leaves c.reserve.new.self refl (ap (λ (s : Slab (InnerNode g.row.K.Denot)). s.slots) c.reserve.ensures.rest_kept) c.requires.sound

pub split_nodes-requires-clause-sound : goal.split_nodes-requires-clause-sound
split_nodes-requires-clause-sound g c =
    roomier_sound g.K.Ord.cmp c.args.self.now c.args.self.now.leaves c.reserve.new.self refl (ap (λ (s : Slab (InnerNode g.row.K.Denot)). s.slots) c.reserve.ensures.rest_kept) c.requires.sound

pub returns-in_err-reserve-clause-ascending_headroom : goal.returns-in_err-reserve-clause-ascending_headroom
returns-in_err-reserve-clause-ascending_headroom g c =
    on_err c.from_residual.result (roomier_ascents g.K.Ord.cmp c.args.self.now c.args.self.now.leaves c.reserve.new.self refl (ap (λ (s : Slab (InnerNode g.row.K.Denot)). s.slots) c.reserve.ensures.rest_kept))
