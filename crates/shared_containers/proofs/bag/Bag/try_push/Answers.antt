use Rattle.std.proofs.Common.{◌∙◌}
use Rattle.shared_containers.proofs.FillLemmas.{one_filled_behind}
use Rattle.shared_containers.proofs.TakenLemmas.{quiet_some, some_then}
use Rattle.shared_containers.proofs.bag.Bag.try_push.Goals as goal

pub returns-in-None-clause-put : goal.returns-in-None-clause-put
returns-in-None-clause-put g c = let a = c.args.local.now in let b = c.taken.new.local in let d = c.place.new.local in let e = c.keep.new.local in let owner = c.in_ok-owner.owner in
    (owner, c.in_ok-owner.ensures.owner, one_filled_behind a d e c.args.self.now.primary owner (c.place.ensures.same.0.0 ∙ c.taken.ensures.same.0.0.0) (some_then a b d c.taken.ensures.some (quiet_some b d c.place.ensures.cells)) c.in-None.ensures.put)
