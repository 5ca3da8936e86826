use Rattle.shared_containers.proofs.PutLemmas.{done_then, appended_quiet_both}
use Rattle.shared_containers.proofs.queue.Queue.try_push.Goals as goal

pub returns-clause-put : goal.returns-clause-put
returns-clause-put g c = let a = c.args.local.now in let b = c.new.new.local in let d = c.push_under-pushed.new.local in let e = c.close.new.local in
    done_then c.push_under-pushed.result (appended_quiet_both c.args.links.now a b d e c.args.self.now c.args.owner c.new.ensures.same.0 c.new.ensures.cells c.close.ensures.cells) c.push_under-pushed.ensures.put
