use Rattle.world_containers.proofs.Names.{◌∷◌, refl, links, slots, entry_link, oldest_cell, newest_cell}
use Rattle.world_containers.proofs.QueueLemmas.{queue_left, new_follows, can_follow, append_leaves}
use Rattle.world_containers.proofs.world.queue.add.Goals as goal

pub append-requires-clause-queue : goal.append-requires-clause-queue
append-requires-clause-queue g c = let a = c.in-Ok.ensures in can_follow c.args.w.now c.make.new.w _ _ _ _ _ c.requires.list.entries c.requires.list.is a.made refl a.leaves

pub returns-in-Ok-clause-added : goal.returns-in-Ok-clause-added
returns-in-Ok-clause-added g c =
    let a = c.in-Ok.ensures in
    let m = a.made in
    let w = c.args.w.now in
    let w1 = c.make.new.w in
    let at = oldest_cell c.args.queue.now in
    let to = newest_cell c.args.queue.now in
    rw c.in-Some.is (record {
      entry = m.entry;
      new = m.new;
      puts = λ es q. (c.append.ensures.appended es m.entry (queue_left entry_link w w1 at to es a.leaves q) m.loose (new_follows w w1 at to c.in-Some.value m.entry es q m.new) m.at).0;
    })

pub returns-in-Ok-clause-leaves : goal.returns-in-Ok-clause-leaves
returns-in-Ok-clause-leaves g c = λ es q.
    let a = c.in-Ok.ensures in
    let m = a.made in
    let w = c.args.w.now in
    let w1 = c.make.new.w in
    let at = oldest_cell c.args.queue.now in
    let to = newest_cell c.args.queue.now in
    let r = c.append.ensures.appended es m.entry (queue_left entry_link w w1 at to es a.leaves q) m.loose (new_follows w w1 at to c.in-Some.value m.entry es q m.new) m.at in
    append_leaves w w1 at to c.in-Some.value c.append.new.w m.entry.link (at ∷ to ∷ links es) (slots es) a.leaves r.1 m.new.link.1
