use Rattle.std.proofs.lemmas.Result.{on_ok_weaker}
use Rattle.shared_containers.specs.Put.{HasPutInto}
use Rattle.shared_containers.proofs.FillLemmas.{into_behind}
use Rattle.shared_containers.proofs.TakenLemmas.{quiet_some}
use Rattle.shared_containers.proofs.bag.Bag.push.Goals as goal

pub returns-clause-put : goal.returns-clause-put
returns-clause-put g c = let a = c.args.local.now in let b = c.place.new.local in let d = c.insert.new.local in let bag = c.args.self.now in let links = c.args.links.now in let owner = c.in_ok-owner.owner in
    on_ok_weaker c.insert.result (λ (put : HasPutInto b bag links owner d). (owner, c.in_ok-owner.ensures.owner, into_behind bag links a b d owner c.place.ensures.same.0.0 (quiet_some a b c.place.ensures.cells) put)) c.insert.ensures.put
