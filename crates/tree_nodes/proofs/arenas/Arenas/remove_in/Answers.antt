use Rattle.std.proofs.Common.{not, List, subst, ◌≡◌, ◌<◌, ◌-◌, ◌+◌, ℕ, length, Option, Some, sym, ap, ◌∙◌, ◌++◌, arith}
use Rattle.std.specs.Range.Bound.{bound_map}
use Rattle.std.specs.Borrow.{Bor}
use Rattle.std.specs.declared.ops.Bound.{Bound}
use Rattle.std.specs.BTreeMap.Range.{range_contains}
use Rattle.tree_nodes.specs.Content.{leaves_of, IsSound}
use Rattle.tree_nodes.specs.Walk.{rest}
use Rattle.tree_nodes.specs.declared.leaf.Leaf.{Leaf}
use Rattle.tree_nodes.proofs.WalkLemmas.{own_there, leaf_around, leaf_counted}
use Rattle.tree_nodes.proofs.ArenaLemmas.{with_leaf}
use Rattle.tree_nodes.proofs.ThinLemmas.{IsThinned, thin_sound, thin_same}
use Rattle.tree_nodes.proofs.RemovalLemmas.{filtered_length, first_split, cleared_own, cleared_next, cleared_last}
use Rattle.tree_nodes.proofs.arenas.Arenas.remove_in.Given.{Over}
use Rattle.tree_nodes.proofs.arenas.Arenas.remove_in.Goals.{After-len}
use Rattle.tree_nodes.proofs.arenas.Arenas.remove_in.Goals as goal

-- what is left of the leaf
module _ (g : Over) (c : After-len g) where
  abbrev lower : Bound g.row.K.Denot
  lower = bound_map (λ (k : Bor g.row.K.Denot). k.now) c.args.lower

  abbrev upper : Bound g.row.K.Denot
  upper = bound_map (λ (k : Bor g.row.K.Denot). k.now) c.args.upper

  abbrev l : Leaf g.row.K.Denot g.row.V.Denot
  l = c.in-Some.leaf.now

  abbrev m : Leaf g.row.K.Denot g.row.V.Denot
  m = c.remove_range.new.self

  abbrev len : ℕ
  len = c.args.self.now.len - c.len-before.result + c.len.result

  abbrev thin : IsThinned g.K.Ord.cmp (λ k. not (range_contains g.K.Ord.cmp lower upper k)) c.args.self.now c.args.at l m
  thin =
      let passed = c.requires.passed in
      let behind = first_split c.args.at passed.rear passed.first in
      let e = c.remove_range.ensures in
      record {
        sound = c.requires.sound;
        own = c.requires.own;
        here = sym c.in-Some.ensures.value;
        fore = passed.fore;
        rear = behind.0;
        all = passed.all ∙ ap (λ ks. passed.fore ++ ks) behind.1;
        pairs = e.pairs;
        frozen = e.thawed;
        rising = c.len.ensures.rising;
        prev = e.prev;
        next = e.next;
      }

  sound : IsSound g.K.Ord.cmp (with_leaf c.args.self.now c.args.at m len)
  sound = thin_sound thin c.len-before.result c.len.result c.len-before.ensures.count c.len.ensures.count

pub unreachable-requires : goal.unreachable-requires
unreachable-requires g c = own_there g.K.Ord.cmp c.args.self.now c.requires.sound c.args.at c.requires.own (sym (rw c.in-None.is at c.get_mut.ensures.value))

pub overflow_sub-self : goal.overflow_sub-self
overflow_sub-self g c =
    let counted = leaf_counted g.K.Ord.cmp c.args.self.now c.requires.sound c.args.at c.requires.own c.in-Some.leaf.now (sym c.in-Some.ensures.value) in
    omega (arith, counted, c.len-before.ensures.count)

pub overflow_add-self : goal.overflow_add-self
overflow_add-self g c =
    let at = (goal.at.overflow_add-self g c).After-len in
    let counted = leaf_counted g.K.Ord.cmp c.args.self.now c.requires.sound c.args.at c.requires.own c.in-Some.leaf.now (sym c.in-Some.ensures.value) in
    let shorter = filtered_length (λ p. not (range_contains g.K.Ord.cmp (lower g at) (upper g at) p.0)) (l g at).array.pairs in
    let pairs : length (m g at).array.pairs ≡ _ = ap (λ (ps : List (g.row.K.Denot × g.row.V.Denot)). length ps) c.remove_range.ensures.pairs in
    omega (arith, shorter, pairs, c.len-before.ensures.count, c.len.ensures.count, counted)

pub returns-then-ends_past-clause-sound : goal.returns-then-ends_past-clause-sound
returns-then-ends_past-clause-sound g c = sound g (goal.at.returns-then-ends_past-clause-sound g c).After-len

pub returns-then-ends_past-clause-same : goal.returns-then-ends_past-clause-same
returns-then-ends_past-clause-same g c = let at = (goal.at.returns-then-ends_past-clause-same g c).After-len in thin_same (thin g at) (len g at)

pub returns-else-ends_past-clause-sound : goal.returns-else-ends_past-clause-sound
returns-else-ends_past-clause-sound g c = sound g (goal.at.returns-else-ends_past-clause-sound g c).After-len

pub returns-else-ends_past-clause-same : goal.returns-else-ends_past-clause-same
returns-else-ends_past-clause-same g c = let at = (goal.at.returns-else-ends_past-clause-same g c).After-len in thin_same (thin g at) (len g at)

pub returns-then-ends_past-clause-passed : goal.returns-then-ends_past-clause-passed
returns-then-ends_past-clause-passed g c =
    let at = (goal.at.returns-then-ends_past-clause-passed g c).After-len in
    cleared_last g.met.K.Ord.total (lower g at) (upper g at) (thin g at) c.requires.passed.keys (len g at) (sound g at) (c.ends_past.ensures.some c.if-ends_past.true) (c.ends_past.ensures.past c.if-ends_past.true)

pub returns-else-ends_past-clause-own : goal.returns-else-ends_past-clause-own
returns-else-ends_past-clause-own g c =
    let at = (goal.at.returns-else-ends_past-clause-own g c).After-len in
    cleared_own g.met.K.Ord.total (lower g at) (upper g at) (thin g at) c.requires.passed.keys (len g at)

pub returns-else-ends_past-clause-passed : goal.returns-else-ends_past-clause-passed
returns-else-ends_past-clause-passed g c =
    let at = (goal.at.returns-else-ends_past-clause-passed g c).After-len in
    cleared_next g.met.K.Ord.total (lower g at) (upper g at) (thin g at) c.requires.passed.keys (len g at)

pub returns-else-ends_past-clause-fewer : goal.returns-else-ends_past-clause-fewer
returns-else-ends_past-clause-fewer g c =
    let order = leaves_of c.args.self.now in
    subst (λ (x : Option ℕ). rest order x < rest order (Some c.args.at)) (sym c.remove_range.ensures.next) (leaf_around g.K.Ord.cmp c.args.self.now c.requires.sound c.args.at c.in-Some.leaf.now c.requires.own (sym c.in-Some.ensures.value)).next_rest
