use Rattle.std.proofs.Common.{◌≡◌, ℕ, ◌+◌, ◌-◌, ◌⊎◌, [], sym, ap, ◌∙◌, arith}
use Rattle.std.specs.BTreeMap.{is_at}
use Rattle.std.specs.Map.{lookup_entry}
use Rattle.slab.specs.Slab.{get}
use Rattle.leaf_array.specs.Cells.{Cells}
use Rattle.std.specs.Option.{option_map}
use Rattle.std.proofs.lemmas.List.{nil_from_length}
use Rattle.leaf_array.specs.Edits.{removed}
use Rattle.tree_nodes.specs.Shape.{leaf_pairs}
use Rattle.tree_nodes.specs.Content.{leaf_on_way}
use Rattle.tree_nodes.specs.Walk.{pairs_in_leaf}
use Rattle.tree_nodes.specs.declared.arenas.Arenas.{Arenas}
use Rattle.tree_nodes.proofs.PruneLemmas.{each_some}
use Rattle.tree_nodes.specs.declared.leaf.Leaf.{Leaf}
use Rattle.tree_nodes.proofs.ArenaLemmas.{IsOnWay, Rewritten, with_leaf, written_there, thawed_on_way, leaf_counted, taken_of, taken_written, removed_length, still_sound, kept_written, removed_written, lookup_written, none_sound, bare_pairs}
use Rattle.tree_nodes.proofs.arenas.Arenas.take_if.Given.{Over}
use Rattle.tree_nodes.proofs.arenas.Arenas.take_if.Goals.{In-Some, After-len-after}
use Rattle.tree_nodes.proofs.arenas.Arenas.take_if.Goals as goal

-- the leaf that was found
abbrev found : (g : Over) (c : In-Some g) → IsOnWay g.K.Ord.cmp c.args.key.now c.args.self.now c.leaf_of-at.result c.in-Some.leaf.now
found g c = record { total = g.met.K.Ord.total; sound = c.requires.sound; on = c.leaf_of-at.ensures; here = sym c.in-Some.ensures.value }

-- what the removal left of it
module _ (g : Over) (c : After-len-after g) where
  abbrev l : Leaf g.row.K.Denot g.row.V.Denot
  l = c.in-Some.leaf.now

  abbrev m : Leaf g.row.K.Denot g.row.V.Denot
  m = c.remove_if-answer.new.self

  abbrev len : ℕ
  len = c.args.self.now.len - c.len-before.result + c.len-after.result

  abbrev there : IsOnWay g.K.Ord.cmp c.args.key.now c.args.self.now c.leaf_of-at.result l
  there = record { total = g.met.K.Ord.total; sound = c.requires.sound; on = c.leaf_of-at.ensures; here = sym c.in-Some.ensures.value }

  taken : (m.array.pairs ≡ removed g.K.Ord.cmp c.args.key.now l.array.pairs) ⊎ (m.array.pairs ≡ l.array.pairs)
  taken = taken_of c.remove_if-answer.result l.array.pairs m.array.pairs (removed g.K.Ord.cmp c.args.key.now l.array.pairs) c.remove_if-answer.ensures.removed (λ e. ap (λ (x : Cells g.row.K.Denot g.row.V.Denot). x.pairs) (c.remove_if-answer.ensures.kept e))

  w : Rewritten there m len
  w = taken_written there m len taken c.remove_if-answer.ensures.thawed c.len-after.ensures.rising

pub remove_if-answer-requires-clause-thawed : goal.remove_if-answer-requires-clause-thawed
remove_if-answer-requires-clause-thawed g c = thawed_on_way (found g (goal.at.remove_if-answer-requires-clause-thawed g c).In-Some)

pub remove_if-answer-requires-clause-callable : goal.remove_if-answer-requires-clause-callable
remove_if-answer-requires-clause-callable g c = rw (lookup_written (found g (goal.at.remove_if-answer-requires-clause-callable g c).In-Some)) at c.requires.callable

pub overflow_sub-self : goal.overflow_sub-self
overflow_sub-self g c = rw c.len-before.ensures.count (leaf_counted (found g (goal.at.overflow_sub-self g c).In-Some))

pub overflow_add-self : goal.overflow_add-self
overflow_add-self g c =
    let at = (goal.at.overflow_add-self g c).After-len-after in
    let fewer = removed_length g.K.Ord.cmp c.args.key.now (l g at).array.pairs (m g at).array.pairs (taken g at) in
    omega (arith, c.len-before.ensures.count, c.len-after.ensures.count, leaf_counted (there g at), fewer)

pub returns-in-Some-clause-sound : goal.returns-in-Some-clause-sound
returns-in-Some-clause-sound g c =
    let at = (goal.at.returns-in-Some-clause-sound g c).After-len-after in
    still_sound (there g at) (m g at) c.len-before.result c.len-after.result c.remove_if-answer.ensures.prev c.remove_if-answer.ensures.next c.len-before.ensures.count c.len-after.ensures.count (w g at)

pub returns-in-Some-clause-absent : goal.returns-in-Some-clause-absent
returns-in-Some-clause-absent g c e = c.remove_if-answer.ensures.absent (sym (lookup_written (found g (goal.at.returns-in-Some-clause-absent g c).In-Some)) ∙ e)

pub returns-in-Some-clause-asked : goal.returns-in-Some-clause-asked
returns-in-Some-clause-asked g c = rw (lookup_written (found g (goal.at.returns-in-Some-clause-asked g c).In-Some)) c.remove_if-answer.ensures.asked

pub returns-in-Some-clause-removed : goal.returns-in-Some-clause-removed
returns-in-Some-clause-removed g c r =
    let at = (goal.at.returns-in-Some-clause-removed g c).After-len-after in
    removed_written (there g at) (m g at) (len g at) (w g at) (c.remove_if-answer.ensures.removed r)

pub returns-in-Some-clause-kept : goal.returns-in-Some-clause-kept
returns-in-Some-clause-kept g c r =
    let at = (goal.at.returns-in-Some-clause-kept g c).After-len-after in
    kept_written (there g at) (m g at) (len g at) (w g at) (ap (λ (x : Cells g.row.K.Denot g.row.V.Denot). x.pairs) (c.remove_if-answer.ensures.kept r))

pub returns-in-None-clause-asked : goal.returns-in-None-clause-asked
returns-in-None-clause-asked g c =
    let here = sym (rw c.in-None.is at c.get_mut.ensures.value) in
    let none = ap (lookup_entry (is_at (g.K.Ord.cmp c.args.key.now))) (bare_pairs g.K.Ord.cmp g.met.K.Ord.total c.args.key.now c.args.self.now (none_sound g.K.Ord.cmp g.met.K.Ord.total c.args.key.now c.args.self.now (rw c.leaf_of-at.ensures at here) c.requires.sound)) in
    rw none tt

pub returns-in-Some-clause-emptied : goal.returns-in-Some-clause-emptied
returns-in-Some-clause-emptied g c =
    let at = (goal.at.returns-in-Some-clause-emptied g c).After-len-after in
    let n = c.leaf_of-at.result in
    let way = (w g at).same_way in
    let new : Arenas g.row.K.Denot g.row.V.Denot = with_leaf c.args.self.now n (m g at) (len g at) in
    let there = written_there (there g at) (m g at) (len g at) (w g at) in
    each_some (λ (k : ℕ). (k ≡ n) × (c.len-after.result ≡ 0)) (λ (k : ℕ). (k ≡ leaf_on_way g.K.Ord.cmp c.args.key.now new) × (pairs_in_leaf new k ≡ [])) c.emptied.result
    (λ k e. (e.0 ∙ c.leaf_of-at.ensures ∙ sym way, ap (pairs_in_leaf new) (e.0 ∙ c.leaf_of-at.ensures) ∙ ap leaf_pairs (ap (option_map (λ (x : Leaf g.row.K.Denot g.row.V.Denot). x.array)) (ap (get new.leaves) (sym way) ∙ there)) ∙ nil_from_length (m g at).array.pairs (sym c.len-after.ensures.count ∙ e.1)))
    c.emptied.ensures
