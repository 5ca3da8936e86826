use Rattle.std.proofs.Common.{◌≡◌, Some, None, sym, ap, ◌∙◌, arith}
use Rattle.slab.specs.Slab.{get}
use Rattle.tree_nodes.specs.declared.leaf.Leaf.{Leaf}
use Rattle.tree_nodes.proofs.ArenaLemmas.{bare_pairs, none_sound, stands_with}
use Rattle.tree_nodes.proofs.WalkLemmas.{way_own, way_place}
use Rattle.tree_nodes.proofs.arenas.Arenas.insertion_point.Goals as goal

pub returns-in-None-clause-none : goal.returns-in-None-clause-none
returns-in-None-clause-none g c =
    let cmp = g.K.Ord.cmp in
    let o = g.met.K.Ord.total in
    let key = c.args.key.now in
    let a = c.args.self.now in
    let none : get a.leaves c.leaf_of-at.result ≡ None = sym (rw c.in-None.is at c.get.ensures) in
    bare_pairs cmp o key a (none_sound cmp o key a (ap (get a.leaves) (sym c.leaf_of-at.ensures) ∙ none) c.requires)

pub returns-in-Some-clause-insertion_point : goal.returns-in-Some-clause-insertion_point
returns-in-Some-clause-insertion_point g c =
    let cmp = g.K.Ord.cmp in
    let o = g.met.K.Ord.total in
    let key = c.args.key.now in
    let a = c.args.self.now in
    let at = c.leaf_of-at.result in
    let l : Leaf g.row.K.Denot g.row.V.Denot = c.in-Some.leaf.now in
    let here : get a.leaves at ≡ Some l = sym c.in-Some.ensures in
    let planted = (stands_with cmp o key a l (ap (get a.leaves) (sym c.leaf_of-at.ensures) ∙ here) c.requires).0 in
    record { there = here; own = way_own cmp o key a c.requires planted at l c.leaf_of-at.ensures here; most = c.insertion_point.ensures.most }

pub returns-in-Some-clause-there : goal.returns-in-Some-clause-there
returns-in-Some-clause-there g c =
    let cmp = g.K.Ord.cmp in
    let o = g.met.K.Ord.total in
    let key = c.args.key.now in
    let a = c.args.self.now in
    let at = c.leaf_of-at.result in
    let l : Leaf g.row.K.Denot g.row.V.Denot = c.in-Some.leaf.now in
    let here : get a.leaves at ≡ Some l = sym c.in-Some.ensures in
    let planted = (stands_with cmp o key a l (ap (get a.leaves) (sym c.leaf_of-at.ensures) ∙ here) c.requires).0 in
    let place = way_place cmp o key a c.requires planted at l c.leaf_of-at.ensures here c.args.beyond in
    omega (arith, place, c.insertion_point.ensures.place)
