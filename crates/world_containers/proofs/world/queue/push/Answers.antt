use Rattle.world_containers.proofs.Names.{List, [], ◌∷◌, ◌++◌, ◌∙◌, ap, sym, ℕ, vacancy, status_at, Entry, links, slots, entry_link, IsQueue, oldest_cell, newest_cell, inside_states}
use Rattle.world_containers.proofs.QueueLemmas.{queue_left, new_follows, can_follow, append_leaves}
use Rattle.world_containers.proofs.world.queue.push.Goals as goal

pub append-requires-clause-queue : goal.append-requires-clause-queue
append-requires-clause-queue g c = let a = c.in-Ok.ensures in can_follow c.args.w.now c.make_three.new.w _ _ c.args.value _ _ c.requires.list.entries c.requires.list.is a.made a.link a.leaves

pub returns-in-Ok-clause-pushed : goal.returns-in-Ok-clause-pushed
returns-in-Ok-clause-pushed g c =
    let a = c.in-Ok.ensures in
    let m = a.made in
    let w = c.args.w.now in
    let w1 = c.make_three.new.w in
    let at = oldest_cell c.args.queue.now in
    let to = newest_cell c.args.queue.now in
    let put = λ (es : List (Entry _)) (q : IsQueue entry_link w at to es). c.append.ensures.appended es m.entry (queue_left entry_link w w1 at to es a.leaves q) m.loose (new_follows w w1 at to c.args.value m.entry es q m.new) (a.link ∙ m.at) in
    let q = c.requires.list.is in
    let follows = new_follows w w1 at to c.args.value m.entry c.requires.list.entries q m.new in
    let three = ap (λ (i : ℕ). status_at w1 i) (sym m.at) ∙ a.three in
    record {
      entry = m.entry;
      new = m.new;
      at = m.at;
      owners = ap (λ (i : ℕ). status_at c.append.new.w i) m.at ∙ (put c.requires.list.entries q).1.uses m.entry.slot follows.slot (ap vacancy three) ∙ three;
      puts = λ es k. (put es k).0;
    }

pub returns-in-Ok-clause-live : goal.returns-in-Ok-clause-live
returns-in-Ok-clause-live g c =
    let p = returns-in-Ok-clause-pushed g c in record { inside = inside_states c.append.new.w.states c.in-Ok.entry.slot 3 p.owners; owners = 3; is = p.owners }

pub returns-in-Ok-clause-list : goal.returns-in-Ok-clause-list
returns-in-Ok-clause-list g c = let p = returns-in-Ok-clause-pushed g c in record { entries = c.requires.list.entries ++ p.entry ∷ []; is = p.puts c.requires.list.entries c.requires.list.is }

pub returns-in-Ok-clause-leaves : goal.returns-in-Ok-clause-leaves
returns-in-Ok-clause-leaves g c = λ es q.
    let a = c.in-Ok.ensures in
    let m = a.made in
    let w = c.args.w.now in
    let w1 = c.make_three.new.w in
    let at = oldest_cell c.args.queue.now in
    let to = newest_cell c.args.queue.now in
    let r = c.append.ensures.appended es m.entry (queue_left entry_link w w1 at to es a.leaves q) m.loose (new_follows w w1 at to c.args.value m.entry es q m.new) (a.link ∙ m.at) in
    append_leaves w w1 at to c.args.value c.append.new.w m.entry.link (at ∷ to ∷ links es) (slots es) a.leaves r.1 m.new.link.1
