use Rattle.world_containers.proofs.Names.{◌≡◌, ◌∙◌, ◌++◌, ◌⊎◌, ℕ, List, [], Option, MatchOption, ap, sym, subst, arith, get_or, State, NoneFree, NoCellFree, ParticipantState, nobody, link_cell, shared_cell, undeleted, entry_link, entry_value, oldest_cell, newest_cell, stays_then, hung_length}
use Rattle.sdd_world.specs.declared.tag.Tag.TheVariants as tag
use Rattle.world_containers.specs.FromIter.{FillsQueue, Copies, entry_values}
use Rattle.world_containers.proofs.QueueLemmas.{queue_left}
use Rattle.world_containers.proofs.FromIterLemmas.{given, Copying, queue_start, queue_next, queue_same, copy_start, copy_next, copying_now, copied_all, copied_end, stopped_at, copied_kept, memory_not, place_not}
use Rattle.world_containers.proofs.world.queue.clone.Goals as goal

pub loop-passed-init : goal.loop-passed-init
loop-passed-init g c =
    let e = c.in-Ok.ensures in
    let w = c.args.w.now in
    record {
      copying = λ es q. ([], subst (λ (j : ℕ). Copying w es 0 j []) (sym c.of-at.ensures) (copy_start w (oldest_cell c.args.queue.now) tag.None es q.hung), queue_start w c.new.new.w (oldest_cell c.in-Ok.copy) (newest_cell c.in-Ok.copy) e.fresh.0 e.fresh.1 e.made e.leaves e.stays);
      only = λ k ne. ap (λ (ms : List ParticipantState). get_or ms k nobody) e.participants;
    }

pub first-requires-clause-list : goal.first-requires-clause-list
first-requires-clause-list g c =
    let k = c.loop-passed.invariant.copying c.requires.list.entries c.requires.list.is in
    record { tag = k.1.tag; entries = k.1.rest; is = copying_now c.args.w.now c.loop-passed.w c.requires.list.entries c.loop-passed._passed (link_cell c.loop-passed.at) (shared_cell c.cell.result.now) k.0 k.2.leaves c.cell.ensures k.1 }

pub add-requires-clause-participant : goal.add-requires-clause-participant
add-requires-clause-participant g c = let s = (c.loop-passed.invariant.copying c.requires.list.entries c.requires.list.is).2.stays.participants in omega (arith, s, c.requires.participant)

pub add-requires-clause-list : goal.add-requires-clause-list
add-requires-clause-list g c = let f = (c.loop-passed.invariant.copying c.requires.list.entries c.requires.list.is).2.fills in record { entries = f.entries; is = f.is }

pub loop-passed-preserved : goal.loop-passed-preserved
loop-passed-preserved g c =
    let v = c.loop-passed.invariant in
    let a = c.in-Ok-add.ensures in
    let w = c.args.w.now in
    let w1 = c.loop-passed.w in
    let next = c.in-Some.next in
    record {
      copying = λ es q.
          let k = v.copying es q in
          let h = copying_now w w1 es c.loop-passed._passed (link_cell c.loop-passed.at) (shared_cell c.cell.result.now) k.0 k.2.leaves c.cell.ensures k.1 in
          let x = subst (λ (o : Option _). MatchOption o (k.1.rest ≡ []) (λ n. Copies k.1.rest (link_cell n.link) n.value)) c.in-Some.is (c.in-Ok-first.ensures.first k.1.tag k.1.rest h) in (
            k.0 ++ given next.value,
            copy_next w es c.loop-passed._passed (link_cell c.loop-passed.at) (link_cell next.link) k.0 next.value k.1 x,
            queue_next w w1 c.add.new.w (oldest_cell c.in-Ok.copy) (newest_cell c.in-Ok.copy) k.0 next.value k.2 (stays_then _ _ _ k.2.stays a.stays) a.added a.leaves,
          );
      only = λ k ne. a.only k ne ∙ v.only k ne;
    }

-- a value wasn't cloned
pub returns-in_default-clause-partly : goal.returns-in_default-clause-partly
returns-in_default-clause-partly g c = λ es q.
    let k = c.loop-passed.invariant.copying es q in
    let w = c.args.w.now in
    let h = copying_now w c.loop-passed.w es c.loop-passed._passed (link_cell c.loop-passed.at) (shared_cell c.cell.result.now) k.0 k.2.leaves c.cell.ensures k.1 in
    let x = c.in_default.ensures.refused k.1.tag k.1.rest h in (
      k.0,
      entry_value x.first.item,
      entry_values (undeleted x.rest),
      stopped_at w es c.loop-passed._passed (link_cell c.loop-passed.at) k.0 k.1 x.first x.rest x.is x.kept,
      k.2.fills,
      λ e. absurd (memory_not e),
      λ _. x.refused,
    )

pub returns-in_default-clause-kept : goal.returns-in_default-clause-kept
returns-in_default-clause-kept g c = λ es q. queue_left entry_link c.args.w.now c.loop-passed.w (oldest_cell c.args.queue.now) (newest_cell c.args.queue.now) es (c.loop-passed.invariant.copying es q).2.leaves q

pub returns-in_default-clause-leaves : goal.returns-in_default-clause-leaves
returns-in_default-clause-leaves g c = (c.loop-passed.invariant.copying c.requires.list.entries c.requires.list.is).2.leaves

pub returns-in_default-clause-only : goal.returns-in_default-clause-only
returns-in_default-clause-only g c = c.loop-passed.invariant.only

pub returns-in_default-clause-stays : goal.returns-in_default-clause-stays
returns-in_default-clause-stays g c = (c.loop-passed.invariant.copying c.requires.list.entries c.requires.list.is).2.stays

-- nothing is left
pub returns-in_default-next-clause-cloned : goal.returns-in_default-next-clause-cloned
returns-in_default-next-clause-cloned g c = λ es q.
    let k = c.loop-passed.invariant.copying es q in
    let w = c.args.w.now in
    let h = copying_now w c.loop-passed.w es c.loop-passed._passed (link_cell c.loop-passed.at) (shared_cell c.cell.result.now) k.0 k.2.leaves c.cell.ensures k.1 in
    let none = subst (λ (o : Option _). MatchOption o (k.1.rest ≡ []) (λ n. Copies k.1.rest (link_cell n.link) n.value)) c.in_default-next.is (c.in-Ok-first.ensures.first k.1.tag k.1.rest h) in
    subst (λ (us : List _). FillsQueue w c.loop-passed.w (oldest_cell c.in-Ok.copy) (newest_cell c.in-Ok.copy) us) (copied_all w es c.loop-passed._passed (link_cell c.loop-passed.at) k.0 k.1 none) k.2.fills

pub returns-in_default-next-clause-kept : goal.returns-in_default-next-clause-kept
returns-in_default-next-clause-kept g c = λ es q. queue_left entry_link c.args.w.now c.loop-passed.w (oldest_cell c.args.queue.now) (newest_cell c.args.queue.now) es (c.loop-passed.invariant.copying es q).2.leaves q

pub returns-in_default-next-clause-leaves : goal.returns-in_default-next-clause-leaves
returns-in_default-next-clause-leaves g c = (c.loop-passed.invariant.copying c.requires.list.entries c.requires.list.is).2.leaves

pub returns-in_default-next-clause-only : goal.returns-in_default-next-clause-only
returns-in_default-next-clause-only g c = c.loop-passed.invariant.only

pub returns-in_default-next-clause-stays : goal.returns-in_default-next-clause-stays
returns-in_default-next-clause-stays g c = (c.loop-passed.invariant.copying c.requires.list.entries c.requires.list.is).2.stays

-- a clone found no place
pub returns-in-Err-add-clause-partly : goal.returns-in-Err-add-clause-partly
returns-in-Err-add-clause-partly g c = λ es q.
    let k = c.loop-passed.invariant.copying es q in
    let w = c.args.w.now in
    let r = c.in-Err-add.ensures.refused in
    let h = copying_now w c.loop-passed.w es c.loop-passed._passed (link_cell c.loop-passed.at) (shared_cell c.cell.result.now) k.0 k.2.leaves c.cell.ensures k.1 in
    let x = subst (λ (o : Option _). MatchOption o (k.1.rest ≡ []) (λ n. Copies k.1.rest (link_cell n.link) n.value)) c.in-Some.is (c.in-Ok-first.ensures.first k.1.tag k.1.rest h) in (
      k.0,
      entry_value x.first.item,
      entry_values (undeleted x.rest),
      stopped_at w es c.loop-passed._passed (link_cell c.loop-passed.at) k.0 k.1 x.first x.rest x.is (copied_kept _ _ _ c.in-Some.next.value r.0 x.value),
      (queue_same w c.loop-passed.w c.add.new.w (oldest_cell c.in-Ok.copy) (newest_cell c.in-Ok.copy) k.0 r.1 k.2).fills,
      λ _. subst (λ (u : State _). NoneFree u ⊎ NoCellFree u) (sym r.1) r.2,
      λ e. absurd (place_not e),
    )

pub returns-in-Err-add-clause-kept : goal.returns-in-Err-add-clause-kept
returns-in-Err-add-clause-kept g c = λ es q.
    let k = c.loop-passed.invariant.copying es q in
    queue_left entry_link c.args.w.now c.add.new.w (oldest_cell c.args.queue.now) (newest_cell c.args.queue.now) es (queue_same c.args.w.now c.loop-passed.w c.add.new.w (oldest_cell c.in-Ok.copy) (newest_cell c.in-Ok.copy) k.0 c.in-Err-add.ensures.refused.1 k.2).leaves q

pub returns-in-Err-add-clause-leaves : goal.returns-in-Err-add-clause-leaves
returns-in-Err-add-clause-leaves g c =
    let k = c.loop-passed.invariant.copying c.requires.list.entries c.requires.list.is in
    (queue_same c.args.w.now c.loop-passed.w c.add.new.w (oldest_cell c.in-Ok.copy) (newest_cell c.in-Ok.copy) k.0 c.in-Err-add.ensures.refused.1 k.2).leaves

pub returns-in-Err-add-clause-only : goal.returns-in-Err-add-clause-only
returns-in-Err-add-clause-only g c = λ k ne. c.add.ensures.only k ne ∙ c.loop-passed.invariant.only k ne

pub returns-in-Err-add-clause-stays : goal.returns-in-Err-add-clause-stays
returns-in-Err-add-clause-stays g c =
    let k = c.loop-passed.invariant.copying c.requires.list.entries c.requires.list.is in
    (queue_same c.args.w.now c.loop-passed.w c.add.new.w (oldest_cell c.in-Ok.copy) (newest_cell c.in-Ok.copy) k.0 c.in-Err-add.ensures.refused.1 k.2).stays

pub returns-clause-cloned : goal.returns-clause-cloned
returns-clause-cloned g c = λ es q.
    let k = c.loop-passed.invariant.copying es q in
    let w = c.args.w.now in
    let there = queue_left entry_link w c.new.new.w (oldest_cell c.args.queue.now) (newest_cell c.args.queue.now) es c.in-Ok.ensures.leaves q in
    let enough = hung_length entry_link c.new.new.w (oldest_cell c.args.queue.now) tag.None es there.hung in
    let n = c.slots_in_use-passed-end.ensures in
    subst (λ (us : List _). FillsQueue w c.loop-passed.w (oldest_cell c.in-Ok.copy) (newest_cell c.in-Ok.copy) us) (copied_end w es c.loop-passed._passed (link_cell c.loop-passed.at) k.0 k.1 (omega (arith, enough, n, c.loop-passed-test.false))) k.2.fills

pub returns-clause-kept : goal.returns-clause-kept
returns-clause-kept g c = λ es q. queue_left entry_link c.args.w.now c.loop-passed.w (oldest_cell c.args.queue.now) (newest_cell c.args.queue.now) es (c.loop-passed.invariant.copying es q).2.leaves q

pub returns-clause-leaves : goal.returns-clause-leaves
returns-clause-leaves g c = (c.loop-passed.invariant.copying c.requires.list.entries c.requires.list.is).2.leaves

pub returns-clause-only : goal.returns-clause-only
returns-clause-only g c = c.loop-passed.invariant.only

pub returns-clause-stays : goal.returns-clause-stays
returns-clause-stays g c = (c.loop-passed.invariant.copying c.requires.list.entries c.requires.list.is).2.stays

pub returns-clause-list : goal.returns-clause-list
returns-clause-list g c = let f = (c.loop-passed.invariant.copying c.requires.list.entries c.requires.list.is).2.fills in record { entries = f.entries; is = f.is }

pub returns-in_default-next-clause-list : goal.returns-in_default-next-clause-list
returns-in_default-next-clause-list g c = let f = (c.loop-passed.invariant.copying c.requires.list.entries c.requires.list.is).2.fills in record { entries = f.entries; is = f.is }

pub returns-in_default-clause-built : goal.returns-in_default-clause-built
returns-in_default-clause-built g c = let f = (c.loop-passed.invariant.copying c.requires.list.entries c.requires.list.is).2.fills in record { entries = f.entries; is = f.is }

pub returns-in-Err-add-clause-built : goal.returns-in-Err-add-clause-built
returns-in-Err-add-clause-built g c = let k = (c.loop-passed.invariant.copying c.requires.list.entries c.requires.list.is) in let f = (queue_same c.args.w.now c.loop-passed.w c.add.new.w (oldest_cell c.in-Ok.copy) (newest_cell c.in-Ok.copy) k.0 c.in-Err-add.ensures.refused.1 k.2).fills in record { entries = f.entries; is = f.is }
