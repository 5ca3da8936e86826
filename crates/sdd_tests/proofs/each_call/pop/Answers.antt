use Rattle.std.proofs.Common.{[], ◌∷◌, sym, subst, ℕ}
use Rattle.sdd_world.specs.declared.tag.Tag.TheVariants as tag
use Rattle.world_containers.specs.Chain.{IsOut, slots, links}
use Rattle.world_containers.specs.Entries.{entry_link}
use Rattle.world_containers.specs.Queues.{oldest_cell, newest_cell}
use Rattle.world_containers.specs.Stacks.{stack_cell}
use Rattle.world_containers.proofs.ChainLemmas.{hung_left, out_of_none}
use Rattle.world_containers.proofs.QueueLemmas.{queue_apart}
use Rattle.world_containers.proofs.ReleaseLemmas.{leaves_released, out_of_one}
use Rattle.sdd_tests.proofs.LineLemmas.{as_queue, as_stack, of_queue, of_stack}
use Rattle.sdd_tests.proofs.each_call.pop.Goals as goal

pub returns-in_ok-entry-in-Stack-clause-list : goal.returns-in_ok-entry-in-Stack-clause-list
returns-in_ok-entry-in-Stack-clause-list g c =
    let i = c.in-Stack in
    let r = as_stack c.args.w.now c.args.line.now i.stack i.is c.requires.list in
    let p = c.in_ok-entry-in-Stack.ensures.popped r.entries r.is in
    let slot = c.in_ok-entry-in-Stack.entry.slot in
    let l = leaves_released 0 slot c.pop.new.w in
    let out = subst (λ (i : ℕ). IsOut i (slots p.rest)) (sym p.at) p.apart in
    let h = hung_left entry_link [] (slot ∷ []) c.pop.new.w _ (stack_cell i.stack) tag.None p.rest l tt (out_of_none (links p.rest)) (out_of_one (slots p.rest) slot out) p.left in
    of_stack c.release.new.w c.args.line.now _ i.stack p.rest i.is c.release.ensures.released h

pub returns-in_ok-entry-in-Queue-clause-list : goal.returns-in_ok-entry-in-Queue-clause-list
returns-in_ok-entry-in-Queue-clause-list g c =
    let i = c.in-Queue in
    let r = as_queue c.args.w.now c.args.line.now i.queue i.is c.requires.list in
    let p = c.in_ok-entry-in-Queue.ensures.popped r.entries r.is in
    let out = subst (λ (i : ℕ). IsOut i (slots p.rest)) (sym p.at) p.apart in
    let h = queue_apart entry_link 0 c.in_ok-entry-in-Queue.entry.slot (oldest_cell i.queue) (newest_cell i.queue) p.rest c.pop-in-Queue.new.w out p.left in
    of_queue c.release-in-Queue.new.w c.args.line.now _ i.queue p.rest i.is c.release-in-Queue.ensures.released h
