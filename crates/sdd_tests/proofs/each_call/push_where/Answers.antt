use Rattle.std.proofs.Common.{[], ◌∷◌, ◌++◌, arith}
use Rattle.sdd_world.specs.declared.tag.Tag.TheVariants as tag
use Rattle.world_containers.specs.Entries.{entry_link}
use Rattle.world_containers.specs.Queues.{oldest_cell, newest_cell}
use Rattle.world_containers.specs.Stacks.{stack_cell}
use Rattle.world_containers.proofs.QueueLemmas.{spare_queue_owner}
use Rattle.world_containers.proofs.ReleaseLemmas.{spare_owner}
use Rattle.sdd_tests.proofs.LineLemmas.{as_queue, as_stack, of_queue, of_stack}
use Rattle.sdd_tests.proofs.each_call.push_where.Goals as goal

pub returns-in_ok-entry-in-Stack-clause-list : goal.returns-in_ok-entry-in-Stack-clause-list
returns-in_ok-entry-in-Stack-clause-list g c =
    let i = c.in-Stack in
    let r = as_stack c.args.w.now c.args.line.now i.stack i.is c.requires.list in
    let p = c.in_ok-entry-in-Stack.ensures.pushed in
    let es = p.entry ∷ r.entries in
    let h = spare_owner entry_link 0 c.in_ok-entry-in-Stack.entry.slot 2 (stack_cell i.stack) tag.None es _ p.owners (omega arith) (p.puts r.entries r.is) in
    of_stack c.release.new.w c.args.line.now _ i.stack es i.is c.release.ensures.released h

pub returns-in_ok-entry-in-Queue-clause-list : goal.returns-in_ok-entry-in-Queue-clause-list
returns-in_ok-entry-in-Queue-clause-list g c =
    let i = c.in-Queue in
    let r = as_queue c.args.w.now c.args.line.now i.queue i.is c.requires.list in
    let p = c.in_ok-entry-in-Queue.ensures.pushed in
    let es = r.entries ++ p.entry ∷ [] in
    let h = spare_queue_owner entry_link 0 c.in_ok-entry-in-Queue.entry.slot 3 (oldest_cell i.queue) (newest_cell i.queue) es _ p.owners (omega arith) (p.puts r.entries r.is) in
    of_queue c.release-in-Queue.new.w c.args.line.now _ i.queue es i.is c.release-in-Queue.ensures.released h
