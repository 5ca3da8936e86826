use Rattle.std.proofs.Common.{◌≡◌, ◌-◌, ◌≤◌, ◌<◌, sym, ap, ◌∙◌, refl, subst, arith}
use Rattle.std.proofs.lemmas.Option.{IfSome_then}
use Rattle.std.proofs.lemmas.Result.{on_ok_weaker}
use Rattle.slab.specs.Slab.{get, HasRoomFor, Slab}
use Rattle.tree_nodes.specs.declared.leaf.Leaf.{Leaf}
use Rattle.tree_nodes.proofs.NodeLemmas.{roomier_sound, roomier_ascents, roomier_pairs, roomier_full}
use Rattle.tree_nodes.specs.declared.arenas.Arenas.{Arenas}
use Rattle.tree_nodes.specs.Content.{pairs_of, IsLeafFull, leaf_on_way}
use Rattle.tree_nodes.specs.Depth.{IsAbove, ascending_headroom}
use Rattle.tree_nodes.proofs.DepthLemmas.{flat_node, on_err}
use Rattle.tree_nodes.proofs.RoomierLemmas.{crowded_are_as_many, sparse_are_fewer, roomier_split, roomier_way}
use Rattle.tree_nodes.proofs.arenas.Arenas.make_room.Goals as goal

pub returns-in_err-reserve-clause-sound : goal.returns-in_err-reserve-clause-sound
returns-in_err-reserve-clause-sound g c =
    roomier_sound g.K.Ord.cmp c.args.self.now c.reserve.new.self c.args.self.now.nodes (ap (λ (s : Slab (Leaf g.row.K.Denot g.row.V.Denot)). s.slots) c.reserve.ensures.rest_kept) (refl) c.requires.sound

pub open_node-requires-clause-sound : goal.open_node-requires-clause-sound
open_node-requires-clause-sound g c =
    roomier_sound g.K.Ord.cmp c.args.self.now c.reserve.new.self c.args.self.now.nodes (ap (λ (s : Slab (Leaf g.row.K.Denot g.row.V.Denot)). s.slots) c.reserve.ensures.rest_kept) refl c.requires.sound

pub returns-in_err-reserve-clause-ascending_headroom : goal.returns-in_err-reserve-clause-ascending_headroom
returns-in_err-reserve-clause-ascending_headroom g c =
    on_err c.from_residual-in_err-reserve.result (roomier_ascents g.K.Ord.cmp c.args.self.now c.reserve.new.self c.args.self.now.nodes (ap (λ (s : Slab (Leaf g.row.K.Denot g.row.V.Denot)). s.slots) c.reserve.ensures.rest_kept) refl)

pub returns-clause-pairs : goal.returns-clause-pairs
returns-clause-pairs g c =
    c.split_leaf.ensures.pairs ∙ c.open_node.ensures.pairs ∙ roomier_pairs g.K.Ord.cmp c.args.self.now c.reserve.new.self c.args.self.now.nodes (ap (λ (s : Slab (Leaf g.row.K.Denot g.row.V.Denot)). s.slots) c.reserve.ensures.rest_kept) refl

pub returns-clause-ascending : goal.returns-clause-ascending
returns-clause-ascending g c above some =
    let cmp = g.K.Ord.cmp in
    let o = g.met.K.Ord.total in
    let key = c.args.key.now in
    let a = c.args.self.now in
    let b : Arenas g.row.K.Denot g.row.V.Denot = record { leaves = c.reserve.new.self; nodes = c.args.self.now.nodes; root = a.root; height = a.height; len = a.len } in
    let same : ascending_headroom cmp b ≡ ascending_headroom cmp a = roomier_ascents cmp a c.reserve.new.self c.args.self.now.nodes (ap (λ (s : Slab (Leaf g.row.K.Denot g.row.V.Denot)). s.slots) c.reserve.ensures.rest_kept) refl in
    let pairs : pairs_of b ≡ pairs_of a = roomier_pairs cmp a c.reserve.new.self c.args.self.now.nodes (ap (λ (s : Slab (Leaf g.row.K.Denot g.row.V.Denot)). s.slots) c.reserve.ensures.rest_kept) refl in
    let full : IsLeafFull cmp key b = roomier_full cmp a c.reserve.new.self c.args.self.now.nodes key (ap (λ (s : Slab (Leaf g.row.K.Denot g.row.V.Denot)). s.slots) c.reserve.ensures.rest_kept) refl (c.is_crowded.ensures.full c.if-not-is_crowded.false c.requires.full) in
    let over_b : IsAbove cmp key (pairs_of b) = subst (IsAbove cmp key) (sym pairs) above in
    let more : 1 < ascending_headroom cmp b = omega (arith, same, some) in
    let still : c.open_node.new.self ≡ b = c.in_ok-above.ensures.still (flat_node cmp o key b more c.if-self-eq0.false over_b full) in
    let grown : ascending_headroom cmp c.open_node.new.self ≤ ascending_headroom cmp c.split_leaf.new.self = c.split_leaf.ensures.ascending (subst (IsLeafFull cmp key) (sym still) full) (subst (λ (x : Arenas g.row.K.Denot g.row.V.Denot). IsAbove cmp key (pairs_of x)) (sym still) over_b) (subst (λ (x : Arenas g.row.K.Denot g.row.V.Denot). 1 < ascending_headroom cmp x) (sym still) more) in
    let to : ascending_headroom cmp c.open_node.new.self ≡ ascending_headroom cmp b = ap (ascending_headroom cmp) still in
    omega (arith, grown, to, same)

pub returns-in_err-reserve-clause-pairs : goal.returns-in_err-reserve-clause-pairs
returns-in_err-reserve-clause-pairs g c = roomier_pairs g.K.Ord.cmp c.args.self.now c.reserve.new.self c.args.self.now.nodes (ap (λ (s : Slab (Leaf g.row.K.Denot g.row.V.Denot)). s.slots) c.reserve.ensures.rest_kept) refl

pub returns-in_err-reserve-clause-refused : goal.returns-in_err-reserve-clause-refused
returns-in_err-reserve-clause-refused g c = on_err c.from_residual-in_err-reserve.result refl

pub open_node-requires-clause-lowest : goal.open_node-requires-clause-lowest
open_node-requires-clause-lowest g c =
    c.requires.above c.if-self-eq0.false ∙ sym (roomier_way g.K.Ord.cmp c.args.self.now c.reserve.new.self c.args.self.now.nodes (ap (λ (s : Slab (Leaf g.row.K.Denot g.row.V.Denot)). s.slots) c.reserve.ensures.rest_kept) refl c.args.key.now (c.args.self.now.height - 1))

pub split_leaf-requires-clause-on : goal.split_leaf-requires-clause-on
split_leaf-requires-clause-on g c =
    c.requires.on ∙ sym (roomier_way g.K.Ord.cmp c.args.self.now c.reserve.new.self c.args.self.now.nodes (ap (λ (s : Slab (Leaf g.row.K.Denot g.row.V.Denot)). s.slots) c.reserve.ensures.rest_kept) refl c.args.key.now c.args.self.now.height) ∙ sym c.open_node.ensures.leaf

pub split_leaf-requires-clause-split_point : goal.split_leaf-requires-clause-split_point
split_leaf-requires-clause-split_point g c =
    roomier_split g.K.Ord.cmp c.args.self.now c.reserve.new.self c.args.self.now.nodes (ap (λ (s : Slab (Leaf g.row.K.Denot g.row.V.Denot)). s.slots) c.reserve.ensures.rest_kept) refl c.args.key.now c.open_node.new.self c.in_ok-split_point.split_point c.open_node.ensures.leaves c.open_node.ensures.leaf c.in_ok-split_point.ensures

pub split_leaf-requires-clause-room : goal.split_leaf-requires-clause-room
split_leaf-requires-clause-room g c = subst (λ (s : Slab (Leaf g.row.K.Denot g.row.V.Denot)). HasRoomFor s 1) (sym c.open_node.ensures.leaves) c.in_ok-reserve.ensures.room

pub returns-then-self-eq0-clause-ascending : goal.returns-then-self-eq0-clause-ascending
returns-then-self-eq0-clause-ascending g c = on_ok_weaker c.init_root.result (λ more above some. more) c.init_root.ensures.ascending

pub split_leaf-requires-clause-parent : goal.split_leaf-requires-clause-parent
split_leaf-requires-clause-parent g c = c.in_ok-above.ensures.room

pub split_leaf-requires-clause-lowest : goal.split_leaf-requires-clause-lowest
split_leaf-requires-clause-lowest g c = c.in_ok-above.ensures.lowest

pub pack-requires-clause-sparse : goal.pack-requires-clause-sparse
pack-requires-clause-sparse g c = IfSome_then (get c.args.self.now.leaves (leaf_on_way g.K.Ord.cmp c.args.key.now c.args.self.now)) c.is_crowded.ensures.crowded (λ l e. sparse_are_fewer _ 12 (sym e ∙ c.if-not-is_crowded.true))

pub split_point-requires-clause-crowded : goal.split_point-requires-clause-crowded
split_point-requires-clause-crowded g c = IfSome_then (get c.args.self.now.leaves (leaf_on_way g.K.Ord.cmp c.args.key.now c.args.self.now)) c.is_crowded.ensures.crowded (λ l e. crowded_are_as_many _ 12 (sym e ∙ c.if-not-is_crowded.false))

pub returns-in_err-above-clause-pairs : goal.returns-in_err-above-clause-pairs
returns-in_err-above-clause-pairs g c =
    c.open_node.ensures.pairs ∙ roomier_pairs g.K.Ord.cmp c.args.self.now c.reserve.new.self c.args.self.now.nodes (ap (λ (s : Slab (Leaf g.row.K.Denot g.row.V.Denot)). s.slots) c.reserve.ensures.rest_kept) refl
