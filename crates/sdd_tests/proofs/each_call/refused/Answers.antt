use Rattle.world_containers.specs.Chain.{skip}
use Rattle.sdd_tests.proofs.LineLemmas.{as_queue, as_stack, of_queue, of_stack}
use Rattle.sdd_tests.proofs.each_call.refused.Goals as goal

pub returns-in-Err-clause-list : goal.returns-in-Err-clause-list
returns-in-Err-clause-list g c =
    let i = c.in-Stack in
    let r = as_stack c.args.w.now c.args.line.now i.stack i.is c.requires.list in
    of_stack c.release-in-Err.new.w c.args.line.now _ i.stack (skip r.entries) i.is c.release-in-Err.ensures.released (c.in-Err.ensures.spare 0 r.entries r.is)

pub returns-in-Err-pop_if-clause-list : goal.returns-in-Err-pop_if-clause-list
returns-in-Err-pop_if-clause-list g c =
    let i = c.in-Queue in
    let r = as_queue c.args.w.now c.args.line.now i.queue i.is c.requires.list in
    let k = c.in-Err-pop_if.ensures.spare 0 r.entries r.is in
    of_queue c.release-in-Err-pop_if.new.w c.args.line.now _ i.queue k.rest i.is c.release-in-Err-pop_if.ensures.released k.left
