use Rattle.std.proofs.Common.{◌≡◌, ◌⊎◌, inl, inr, ⊎_elim, ℕ, ◌+◌, ◌-◌, ◌^◌, ◌≤◌, ◌<◌, true, false, refl, sym, ap, ◌∙◌, subst, arith}
use Rattle.std.specs.Prelude.{length}
use Rattle.slab.proofs.SlabLemmas.{Updates-with_value}
use Rattle.leaf_array.specs.Cells.{Cells}
use Rattle.tree_nodes.specs.declared.leaf.Leaf.{Leaf}
use Rattle.tree_nodes.proofs.WayLemmas.{some_same}
use Rattle.tree_nodes.proofs.ArenaLemmas.{IsPut, IsOnWay, Rewritten, put_of, put_length, put_there, thawed_on_way, leaf_counted, put_written, still_sound, has_written, upserted_written, kept_written, with_leaf, written_there, none_sound, bare_pairs}
use Rattle.slab.specs.Slab.{get}
use Rattle.std.specs.Option.{IsSome}
use Rattle.leaf_array.specs.Edits.{upserted}
use Rattle.leaf_array.specs.Pairs.{has_key}
use Rattle.leaf_array.specs.Results.{IsSuccess, IsFull, given_back}
use Rattle.tree_nodes.specs.Content.{pairs_of, IsSound, LeafHasRoom}
use Rattle.tree_nodes.specs.declared.arenas.Arenas.{Arenas}
use Rattle.tree_nodes.specs.Depth.{IsAbove, ascending_headroom, root_room, headroom_for}
use Rattle.tree_nodes.proofs.LeafLemmas.{roomy}
use Rattle.tree_nodes.proofs.DepthLemmas.{full_back, root_less, room_less, room_more, insert_room, headroom_less}
use Rattle.tree_nodes.proofs.arenas.Arenas.insert.Given.{Over}
use Rattle.tree_nodes.proofs.arenas.Arenas.insert.Goals.{In-Some, After-len}
use Rattle.tree_nodes.proofs.arenas.Arenas.insert.Goals as goal

-- the leaf that was found
abbrev found : (g : Over) (c : In-Some g) → IsOnWay g.K.Ord.cmp c.args.key c.args.self.now c.args.at c.in-Some.leaf.now
found g c = record { total = g.met.K.Ord.total; sound = c.requires.sound; on = c.requires.on; here = sym c.in-Some.ensures.value }

-- what the insertion left of it, and of the arenas
module _ (g : Over) (c : After-len g) where
  abbrev l : Leaf g.row.K.Denot g.row.V.Denot
  l = c.in-Some.leaf.now

  abbrev m : Leaf g.row.K.Denot g.row.V.Denot
  m = c.insert-answer.new.self

  abbrev len : ℕ
  len = c.args.self.now.len - c.len-before.result + c.len.result

  abbrev b : Arenas g.row.K.Denot g.row.V.Denot
  b = with_leaf c.args.self.now c.args.at m len

  abbrev there : IsOnWay g.K.Ord.cmp c.args.key c.args.self.now c.args.at l
  there = record { total = g.met.K.Ord.total; sound = c.requires.sound; on = c.requires.on; here = sym c.in-Some.ensures.value }

  put : IsPut g.K.Ord.cmp c.args.key c.args.val l.array.pairs m.array.pairs
  put = put_of g.K.Ord.cmp c.args.key c.args.val c.insert-answer.result l.array m.array c.insert-answer.ensures.done c.insert-answer.ensures.kept

  w : Rewritten there m len
  w = put_written there c.args.val m len put c.insert-answer.ensures.thawed c.len.ensures.rising

  has : has_key g.K.Ord.cmp c.args.key (pairs_of c.args.self.now) ≡ has_key g.K.Ord.cmp c.args.key l.array.pairs
  has = has_written there m len w

  counted : c.args.self.now.len - c.len-before.result + c.len.result < 2 ^ 64
  counted =
      let old = l.array.pairs in
      let new = m.array.pairs in
      let a = c.args.self.now in
      let shorter = leaf_counted there in
      let longer : length new ≤ length old + 1 = put_length g.K.Ord.cmp c.args.key c.args.val old new put in
      let countable : length new ≤ length old ⊎ a.len + 1 < 2 ^ 64 =
      (elim (has_key g.K.Ord.cmp c.args.key old) as (λ b. has_key g.K.Ord.cmp c.args.key old ≡ b → length new ≤ length old ⊎ a.len + 1 < 2 ^ 64) [
        | true ↦ λ h. inl (put_there g.K.Ord.cmp c.args.key c.args.val old new put h)
        | false ↦ λ h. inr (c.requires.countable (has ∙ h))
      ]) refl in
      ⊎_elim (λ (same : length new ≤ length old). omega (arith, c.len-before.ensures.count, c.len.ensures.count, shorter, same)) (λ (more : a.len + 1 < 2 ^ 64). omega (arith, c.len-before.ensures.count, c.len.ensures.count, more, shorter, longer)) countable

  sound : IsSound g.K.Ord.cmp b
  sound = still_sound there m c.len-before.result c.len.result c.insert-answer.ensures.prev c.insert-answer.ensures.next c.len-before.ensures.count c.len.ensures.count w

  same_pairs : IsSome (given_back c.insert-answer.result) → pairs_of b ≡ pairs_of c.args.self.now
  same_pairs k = kept_written there m len w (ap (λ (d : Cells g.row.K.Denot g.row.V.Denot). d.pairs) (c.insert-answer.ensures.kept k))

  done : IsSuccess c.insert-answer.result → pairs_of b ≡ upserted g.K.Ord.cmp c.args.key c.args.val (pairs_of c.args.self.now)
  done d = upserted_written there m len w c.args.val (c.insert-answer.ensures.done d)

  -- an array with room takes a pair
  not_full : IsFull c.insert-answer.result → (d : Cells g.row.K.Denot g.row.V.Denot) → d ≡ l.array → d.retired ≡ false → d.used < 15 → ⊥
  not_full f d same living room =
      roomy l.array.retired l.array.used (subst (λ (d : Cells g.row.K.Denot g.row.V.Denot). d.retired ≡ false) same living) (subst (λ (d : Cells g.row.K.Denot g.row.V.Denot). d.used < 15) same room) (c.insert-answer.ensures.full f)

  full : IsFull c.insert-answer.result → LeafHasRoom g.K.Ord.cmp c.args.key c.args.self.now → ⊥
  full f r = not_full f r.leaf.array (ap (λ (x : Leaf g.row.K.Denot g.row.V.Denot). x.array) (some_same (sym r.there ∙ ap (get c.args.self.now.leaves) (sym there.on) ∙ there.here))) r.living r.room

  still : IsFull c.insert-answer.result → LeafHasRoom g.K.Ord.cmp c.args.key b → ⊥
  still f r = not_full f r.leaf.array (ap (λ (x : Leaf g.row.K.Denot g.row.V.Denot). x.array) (some_same (sym r.there ∙ written_there there m len w)) ∙ c.insert-answer.ensures.kept (full_back c.insert-answer.result f)) r.living r.room

  same_headroom : IsSome (given_back c.insert-answer.result) → ascending_headroom g.K.Ord.cmp b ≡ ascending_headroom g.K.Ord.cmp c.args.self.now
  same_headroom k =
      let a = c.args.self.now in
      let cmp = g.K.Ord.cmp in
      let here = there.here in
      let used : m.array.used ≡ l.array.used = ap (λ (d : Cells g.row.K.Denot g.row.V.Denot). d.used) (c.insert-answer.ensures.kept k) in
      let less = root_less cmp a b (same_pairs k) refl (room_less a.leaves c.args.at l m here (omega (arith, used))) in
      let more = root_less cmp b a (sym (same_pairs k)) refl (room_more a.leaves c.args.at l m here used) in
      let same : root_room cmp b ≡ root_room cmp a = omega (arith, less, more) in
      ap (headroom_for a.height) same

  less_headroom : IsSuccess c.insert-answer.result → IsAbove g.K.Ord.cmp c.args.key (pairs_of c.args.self.now) → ascending_headroom g.K.Ord.cmp c.args.self.now ≤ ascending_headroom g.K.Ord.cmp b + 1
  less_headroom d above =
      let a = c.args.self.now in
      let cmp = g.K.Ord.cmp in
      let changed = (Updates-with_value a.leaves c.args.at m (rw there.here refl)).changed in
      headroom_less a.height (root_room cmp a) (root_room cmp b) 1 (insert_room cmp there.total c.args.key c.args.val a b above refl (done d) c.args.at there.on l m there.here changed (c.insert-answer.ensures.used d))

pub insert-answer-requires : goal.insert-answer-requires
insert-answer-requires g c = thawed_on_way (found g (goal.at.insert-answer-requires g c).In-Some)

pub overflow_sub-self : goal.overflow_sub-self
overflow_sub-self g c = rw c.len-before.ensures.count (leaf_counted (found g (goal.at.overflow_sub-self g c).In-Some))

pub overflow_add-self : goal.overflow_add-self
overflow_add-self g c = let few = counted g (goal.at.overflow_add-self g c).After-len in omega (arith, few)

pub returns-in-Some-clause-sound : goal.returns-in-Some-clause-sound
returns-in-Some-clause-sound g c = sound g (goal.at.returns-in-Some-clause-sound g c).After-len

pub returns-in-Some-clause-kept : goal.returns-in-Some-clause-kept
returns-in-Some-clause-kept g c = same_pairs g (goal.at.returns-in-Some-clause-kept g c).After-len

pub returns-in-Some-clause-full : goal.returns-in-Some-clause-full
returns-in-Some-clause-full g c = full g (goal.at.returns-in-Some-clause-full g c).After-len

pub returns-in-Some-clause-still : goal.returns-in-Some-clause-still
returns-in-Some-clause-still g c = still g (goal.at.returns-in-Some-clause-still g c).After-len

pub returns-in-Some-clause-absent : goal.returns-in-Some-clause-absent
returns-in-Some-clause-absent g c f = has g (goal.at.returns-in-Some-clause-absent g c).After-len ∙ c.insert-answer.ensures.absent f

pub returns-in-Some-clause-duplicate : goal.returns-in-Some-clause-duplicate
returns-in-Some-clause-duplicate g c d = has g (goal.at.returns-in-Some-clause-duplicate g c).After-len ∙ c.insert-answer.ensures.duplicate d

pub returns-in-Some-clause-unique : goal.returns-in-Some-clause-unique
returns-in-Some-clause-unique g c d u = has g (goal.at.returns-in-Some-clause-unique g c).After-len ∙ c.insert-answer.ensures.unique d u

pub returns-in-Some-clause-done : goal.returns-in-Some-clause-done
returns-in-Some-clause-done g c = done g (goal.at.returns-in-Some-clause-done g c).After-len

pub returns-in-Some-clause-ascending_headroom : goal.returns-in-Some-clause-ascending_headroom
returns-in-Some-clause-ascending_headroom g c = same_headroom g (goal.at.returns-in-Some-clause-ascending_headroom g c).After-len

pub returns-in-Some-clause-ascending : goal.returns-in-Some-clause-ascending
returns-in-Some-clause-ascending g c = less_headroom g (goal.at.returns-in-Some-clause-ascending g c).After-len

pub returns-in-None-clause-absent : goal.returns-in-None-clause-absent
returns-in-None-clause-absent g c f =
    let cmp = g.K.Ord.cmp in
    let o = g.met.K.Ord.total in
    let key = c.args.key in
    let a = c.args.self.now in
    let here = sym (rw c.in-None.is at c.get_mut.ensures.value) in
    ap (has_key cmp key) (bare_pairs cmp o key a (none_sound cmp o key a (rw c.requires.on at here) c.requires.sound))
