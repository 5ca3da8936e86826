use Rattle.std.proofs.Common.{◌≡◌, ◌-◌, sym, ap, arith}
use Rattle.std.specs.BTreeMap.{is_at}
use Rattle.std.specs.Map.{lookup_entry}
use Rattle.tree_nodes.proofs.ArenaLemmas.{lookup_sound, none_sound, bare_pairs}
use Rattle.tree_nodes.proofs.arenas.Arenas.search_entry_counted.Goals as goal

pub returns-in-Some-clause-pair : goal.returns-in-Some-clause-pair
returns-in-Some-clause-pair g c =
    let least : c.args.self.now.height - 0 ≡ c.args.self.now.height = omega arith in
    let here = sym c.in-Some.ensures in
    rw (lookup_sound g.K.Ord.cmp g.met.K.Ord.total c.args.key.now c.args.self.now c.in-Some.leaf.now (rw (c.node_at_counted.ensures.place, least) at here) c.requires) c.search_entry_counted.ensures.pair

pub returns-in-None-clause-pair : goal.returns-in-None-clause-pair
returns-in-None-clause-pair g c =
    let least : c.args.self.now.height - 0 ≡ c.args.self.now.height = omega arith in
    let here = sym (rw c.in-None.is at c.get.ensures) in
    ap (lookup_entry (is_at (g.K.Ord.cmp c.args.key.now))) (bare_pairs g.K.Ord.cmp g.met.K.Ord.total c.args.key.now c.args.self.now (none_sound g.K.Ord.cmp g.met.K.Ord.total c.args.key.now c.args.self.now (rw (c.node_at_counted.ensures.place, least) at here) c.requires))
