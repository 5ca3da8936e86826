use Rattle.world_containers.specs.Queues.{oldest_cell, newest_cell}
use Rattle.world_containers.specs.Stacks.{stack_cell}
use Rattle.world_containers.proofs.FromIterLemmas.{queue_outlasts, stack_outlasts}
use Rattle.sdd_tests.proofs.LineLemmas.{as_queue, as_stack}
use Rattle.sdd_tests.proofs.fillings.copied.Goals as goal

pub returns-in-Ok-clause-list : goal.returns-in-Ok-clause-list
returns-in-Ok-clause-list g c =
    let i = c.in-Stack in
    let r = as_stack c.args.w.now c.args.line i.stack i.is c.requires.list in
    let f = c.in-Ok.ensures.cloned r.entries r.is in
    let l = c.retire.ensures.leaves r.entries (c.clone-cloned.ensures.kept r.entries r.is) in
    record { entries = f.entries; is = stack_outlasts c.args.w.now c.clone-cloned.new.w c.retire.new.w (stack_cell i.stack) (stack_cell c.in-Ok.copy) r.entries _ r.is f l }

pub returns-in-Err-Partly-clause-list : goal.returns-in-Err-Partly-clause-list
returns-in-Err-Partly-clause-list g c =
    let i = c.in-Stack in
    let r = as_stack c.args.w.now c.args.line i.stack i.is c.requires.list in
    let f = (rw c.in-Err-Partly.field-0-is at (c.in-Err-Partly.ensures.partly r.entries r.is)).4 in
    let l = c.retire.ensures.leaves r.entries (c.clone-cloned.ensures.kept r.entries r.is) in
    record { entries = f.entries; is = stack_outlasts c.args.w.now c.clone-cloned.new.w c.retire.new.w (stack_cell i.stack) (stack_cell c.in-Err-Partly.copy) r.entries _ r.is f l }

pub returns-in-Ok-cloned-clause-list : goal.returns-in-Ok-cloned-clause-list
returns-in-Ok-cloned-clause-list g c =
    let i = c.in-Queue in
    let r = as_queue c.args.w.now c.args.line i.queue i.is c.requires.list in
    let f = c.in-Ok-cloned.ensures.cloned r.entries r.is in
    let l = c.retire-in-Queue.ensures.leaves r.entries (c.clone-cloned-in-Queue.ensures.kept r.entries r.is) in
    record { entries = f.entries; is = queue_outlasts c.args.w.now c.clone-cloned-in-Queue.new.w c.retire-in-Queue.new.w (oldest_cell i.queue) (newest_cell i.queue) (oldest_cell c.in-Ok-cloned.copy) (newest_cell c.in-Ok-cloned.copy) r.entries _ r.is f l }

pub returns-in-Err-Partly-cloned-clause-list : goal.returns-in-Err-Partly-cloned-clause-list
returns-in-Err-Partly-cloned-clause-list g c =
    let i = c.in-Queue in
    let r = as_queue c.args.w.now c.args.line i.queue i.is c.requires.list in
    let f = (rw c.in-Err-Partly-cloned.field-0-is at (c.in-Err-Partly-cloned.ensures.partly r.entries r.is)).4 in
    let l = c.retire-in-Queue.ensures.leaves r.entries (c.clone-cloned-in-Queue.ensures.kept r.entries r.is) in
    record { entries = f.entries; is = queue_outlasts c.args.w.now c.clone-cloned-in-Queue.new.w c.retire-in-Queue.new.w (oldest_cell i.queue) (newest_cell i.queue) (oldest_cell c.in-Err-Partly-cloned.copy) (newest_cell c.in-Err-Partly-cloned.copy) r.entries _ r.is f l }
