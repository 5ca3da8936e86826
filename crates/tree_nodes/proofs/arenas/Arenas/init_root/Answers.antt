use Rattle.std.proofs.Common.{◌≡◌, Option, sym, ap, ◌∙◌, refl, subst}
use Rattle.std.specs.Prelude.{IfSome}
use Rattle.tree_nodes.specs.Content.{pairs_of}
use Rattle.leaf_array.specs.Cells.{Cells}
use Rattle.tree_nodes.specs.declared.leaf.Leaf.{Leaf}
use Rattle.tree_nodes.specs.declared.node.InnerNode.{InnerNode}
use Rattle.tree_nodes.proofs.ArenaLemmas.{bare_pairs}
use Rattle.tree_nodes.proofs.NodeLemmas.{bare_of}
use Rattle.slab.specs.Slab.{Slab}
use Rattle.tree_nodes.proofs.NodeLemmas.{roomier_sound, roomier_pairs, roomier_ascents}
use Rattle.tree_nodes.proofs.DepthLemmas.{on_err}
use Rattle.tree_nodes.proofs.arenas.Arenas.init_root.Goals as goal

pub returns-clause-pairs : goal.returns-clause-pairs
returns-clause-pairs g c =
    let cmp = g.K.Ord.cmp in
    let a = c.args.self.now in
    let planted = subst (λ (x : Option (Leaf g.row.K.Denot g.row.V.Denot)). IfSome x (λ l. pairs_of c.plant.new.self ≡ l.array.pairs)) c.insert_reserved-leaf.ensures.updates.changed c.plant.ensures.pairs in
    planted ∙ ap (λ (x : Cells g.row.K.Denot g.row.V.Denot). x.pairs) c.new.ensures.array ∙ sym (bare_pairs cmp g.met.K.Ord.total c.args.key.now a (bare_of cmp g.met.K.Ord.total c.args.key.now a c.requires.sound c.requires.bare))

pub returns-in_err-reserve-clause-sound : goal.returns-in_err-reserve-clause-sound
returns-in_err-reserve-clause-sound g c =
    roomier_sound g.K.Ord.cmp c.args.self.now c.reserve.new.self c.args.self.now.nodes (ap (λ (s : Slab (Leaf g.row.K.Denot g.row.V.Denot)). s.slots) c.reserve.ensures.rest_kept) refl c.requires.sound

pub returns-in_err-reserve-2-clause-sound : goal.returns-in_err-reserve-2-clause-sound
returns-in_err-reserve-2-clause-sound g c =
    roomier_sound g.K.Ord.cmp c.args.self.now c.reserve.new.self c.reserve-2.new.self (ap (λ (s : Slab (Leaf g.row.K.Denot g.row.V.Denot)). s.slots) c.reserve.ensures.rest_kept) (ap (λ (s : Slab (InnerNode g.row.K.Denot)). s.slots) c.reserve-2.ensures.rest_kept) c.requires.sound

pub returns-in_err-reserve-clause-pairs : goal.returns-in_err-reserve-clause-pairs
returns-in_err-reserve-clause-pairs g c = roomier_pairs g.K.Ord.cmp c.args.self.now c.reserve.new.self c.args.self.now.nodes (ap (λ (s : Slab (Leaf g.row.K.Denot g.row.V.Denot)). s.slots) c.reserve.ensures.rest_kept) refl

pub returns-in_err-reserve-2-clause-pairs : goal.returns-in_err-reserve-2-clause-pairs
returns-in_err-reserve-2-clause-pairs g c = roomier_pairs g.K.Ord.cmp c.args.self.now c.reserve.new.self c.reserve-2.new.self (ap (λ (s : Slab (Leaf g.row.K.Denot g.row.V.Denot)). s.slots) c.reserve.ensures.rest_kept) (ap (λ (s : Slab (InnerNode g.row.K.Denot)). s.slots) c.reserve-2.ensures.rest_kept)

pub returns-in_err-reserve-clause-ascending_headroom : goal.returns-in_err-reserve-clause-ascending_headroom
returns-in_err-reserve-clause-ascending_headroom g c =
    on_err c.from_residual.result (roomier_ascents g.K.Ord.cmp c.args.self.now c.reserve.new.self c.args.self.now.nodes (ap (λ (s : Slab (Leaf g.row.K.Denot g.row.V.Denot)). s.slots) c.reserve.ensures.rest_kept) refl)

pub returns-in_err-reserve-2-clause-ascending_headroom : goal.returns-in_err-reserve-2-clause-ascending_headroom
returns-in_err-reserve-2-clause-ascending_headroom g c =
    on_err c.from_residual-in_err-reserve-2.result (roomier_ascents g.K.Ord.cmp c.args.self.now c.reserve.new.self c.reserve-2.new.self (ap (λ (s : Slab (Leaf g.row.K.Denot g.row.V.Denot)). s.slots) c.reserve.ensures.rest_kept) (ap (λ (s : Slab (InnerNode g.row.K.Denot)). s.slots) c.reserve-2.ensures.rest_kept))
