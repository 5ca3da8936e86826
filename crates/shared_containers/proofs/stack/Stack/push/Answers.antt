use Rattle.std.proofs.Common.{ℕ}
use Rattle.std.proofs.lemmas.Result.{on_ok_weaker}
use Rattle.shared_containers.specs.Put.{HasPutBefore}
use Rattle.shared_containers.proofs.PutLemmas.{front_behind}
use Rattle.shared_containers.proofs.TakenLemmas.{quiet_some}
use Rattle.shared_containers.proofs.stack.Stack.push.Goals as goal

pub returns-clause-put : goal.returns-clause-put
returns-clause-put g c = let a = c.args.local.now in let b = c.place.new.local in let d = c.insert.new.local in let cell : ℕ = c.args.self.now.first.cell in let links = c.args.links.now in let owner = c.in_ok-owner.owner in
    on_ok_weaker c.insert.result (λ (put : HasPutBefore b links cell owner d). (owner, c.in_ok-owner.ensures.owner, front_behind links a b d cell owner c.place.ensures.same.0.0 (quiet_some a b c.place.ensures.cells) put)) c.insert.ensures.put
