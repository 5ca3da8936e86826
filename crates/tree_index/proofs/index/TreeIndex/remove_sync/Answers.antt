use Rattle.std.proofs.Common.{◌≡◌, ◌∙◌, sym}
use Rattle.std.specs.BTreeMap.{is_at}
use Rattle.std.specs.Map.{lookup_entry}
use Rattle.leaf_array.specs.Pairs.{has_key}
use Rattle.tree_nodes.specs.Content.{pairs_of}
use Rattle.tree_nodes.proofs.LeafLemmas.{has_entry, found_of, removed_of}
use Rattle.tree_index.proofs.index.TreeIndex.remove_sync.Goals as goal

pub returns-clause-found : goal.returns-clause-found
returns-clause-found g c =
    let x = lookup_entry (is_at (g.K.Ord.cmp c.args.key.now)) (pairs_of c.self.inside.arenas) in
    rw (sym c.self.view_is) (found_of x c.remove_if.result c.remove_if.ensures.asked c.remove_if.ensures.absent (λ e p. p.1) ∙ sym (has_entry g.K.Ord.cmp c.args.key.now (pairs_of c.self.inside.arenas)))

pub returns-clause-removed : goal.returns-clause-removed
returns-clause-removed g c =
    let x = lookup_entry (is_at (g.K.Ord.cmp c.args.key.now)) (pairs_of c.self.inside.arenas) in
    let found : c.remove_if.result ≡ has_key g.K.Ord.cmp c.args.key.now (pairs_of c.self.inside.arenas) = found_of x c.remove_if.result c.remove_if.ensures.asked c.remove_if.ensures.absent (λ e p. p.1) ∙ sym (has_entry g.K.Ord.cmp c.args.key.now (pairs_of c.self.inside.arenas)) in
    rw (sym c.self.view_is) (removed_of g.K.Ord.cmp c.args.key.now (pairs_of c.self.inside.arenas) (pairs_of c.remove_if.new.self) c.remove_if.result c.remove_if.ensures.removed c.remove_if.ensures.kept found)
