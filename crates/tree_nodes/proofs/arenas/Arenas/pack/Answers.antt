use Rattle.std.proofs.Common.{refl, ◌<◌, Option, sym, ap, ◌∙◌, subst, arith}
use Rattle.std.specs.Prelude.{length, IfSome}
use Rattle.slab.specs.Slab.{get}
use Rattle.tree_nodes.specs.Depth.{root_room}
use Rattle.tree_nodes.proofs.DepthLemmas.{root_less, room_less, headroom_less}
use Rattle.leaf_array.specs.Pairs.{IsAscending}
use Rattle.tree_nodes.specs.declared.leaf.Leaf.{Leaf}
use Rattle.tree_nodes.specs.Shape.{AllKeys, IsWithin}
use Rattle.tree_nodes.proofs.NodeLemmas.{leaf_not_none}
use Rattle.tree_nodes.proofs.ArenaLemmas.{IsOnWay, Rewritten, with_leaf, rewritten, thawed_on_way, same_sound, kept_written, written_there}
use Rattle.tree_nodes.proofs.arenas.Arenas.pack.Given.{Over}
use Rattle.tree_nodes.proofs.arenas.Arenas.pack.Goals.{After-pack}
use Rattle.tree_nodes.proofs.arenas.Arenas.pack.Goals as goal

-- the leaf that was found, and packed
module _ (g : Over) (c : After-pack g) where
  abbrev m : Leaf g.row.K.Denot g.row.V.Denot
  m = c.pack.new.self

  abbrev there : IsOnWay g.K.Ord.cmp c.args.key.now c.args.self.now c.args.at c.in-Some.leaf.now
  there = record { total = g.met.K.Ord.total; sound = c.requires.sound; on = c.requires.on; here = sym c.in-Some.ensures.value }

  w : Rewritten there m c.args.self.now.len
  w = rewritten there m c.args.self.now.len (c.pack.ensures.thawed ∙ thawed_on_way there) (subst (IsAscending g.K.Ord.cmp) (sym c.pack.ensures.pairs) c.len.ensures.rising) (λ low high within all. subst (AllKeys (IsWithin g.K.Ord.cmp low high)) (sym c.pack.ensures.pairs) all)

pub unreachable-requires : goal.unreachable-requires
unreachable-requires g c =
    leaf_not_none g.K.Ord.cmp g.met.K.Ord.total c.args.key.now c.args.self.now c.requires.sound c.requires.planted c.args.at c.requires.on (sym (rw c.in-None.is at c.get_mut.ensures.value))

pub returns-clause-sound : goal.returns-clause-sound
returns-clause-sound g c =
    let at = (goal.at.returns-clause-sound g c).After-pack in
    same_sound (there g at) (m g at) c.pack.ensures.prev c.pack.ensures.next (w g at) c.pack.ensures.pairs

pub returns-clause-pairs : goal.returns-clause-pairs
returns-clause-pairs g c =
    let at = (goal.at.returns-clause-pairs g c).After-pack in
    kept_written (there g at) (m g at) c.args.self.now.len (w g at) c.pack.ensures.pairs

pub returns-clause-room : goal.returns-clause-room
returns-clause-room g c =
    let at = (goal.at.returns-clause-room g c).After-pack in
    let a = c.args.self.now in
    let few : length c.in-Some.leaf.now.array.pairs < 12 = subst (λ (x : Option (Leaf g.row.K.Denot g.row.V.Denot)). IfSome x (λ l. length l.array.pairs < 12)) (ap (get a.leaves) (sym c.requires.on) ∙ sym c.in-Some.ensures.value) c.requires.sparse in
    record { leaf = m g at; there = written_there (there g at) (m g at) a.len (w g at); living = c.pack.ensures.living; room = omega (arith, few, c.pack.ensures.used) }

pub returns-clause-ascending : goal.returns-clause-ascending
returns-clause-ascending g c =
    let a = c.args.self.now in
    let b = with_leaf a c.args.at c.pack.new.self a.len in
    let room = root_less g.K.Ord.cmp a b (returns-clause-pairs g c) refl (room_less a.leaves c.args.at c.in-Some.leaf.now c.pack.new.self (sym c.in-Some.ensures.value) (omega (arith, c.pack.ensures.used, c.len.ensures.count, c.len.ensures.used))) in
    let less = headroom_less a.height (root_room g.K.Ord.cmp a) (root_room g.K.Ord.cmp b) 0 (λ h. omega (arith, room)) in
    omega (arith, less)

pub returns-clause-on : goal.returns-clause-on
returns-clause-on g c = let way = (w g (goal.at.returns-clause-on g c).After-pack).same_way in c.requires.on ∙ sym way
