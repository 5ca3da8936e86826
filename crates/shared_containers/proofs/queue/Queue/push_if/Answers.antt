use Rattle.std.proofs.lemmas.Result.{on_ok_weaker}
use Rattle.shared_containers.specs.Put.{HasAppendedClear}
use Rattle.shared_containers.proofs.PutLemmas.{clear_behind}
use Rattle.shared_containers.proofs.queue.Queue.push_if.Goals as goal

pub returns-clause-put : goal.returns-clause-put
returns-clause-put g c = let a = c.args.local.now in let b = c.place.new.local in let d = c.insert.new.local in let q = c.args.self.now in let links = c.args.links.now in let owner = c.in_ok-owner.owner in
    on_ok_weaker c.insert.result (λ (put : HasAppendedClear b q links owner d). (owner, c.in_ok-owner.ensures.owner, clear_behind links a b d q owner c.place.ensures.same.0.0 c.place.ensures.cells put)) c.insert.ensures.put
