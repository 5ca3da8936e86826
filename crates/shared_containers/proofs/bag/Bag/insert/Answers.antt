use Rattle.std.proofs.Common.{ℕ, inl}
use Rattle.std.proofs.lemmas.Result.{on_ok_weaker}
use Rattle.shared_containers.specs.Put.{HasPutBefore}
use Rattle.shared_containers.proofs.FillLemmas.{into_overflow}
use Rattle.shared_containers.proofs.bag.Bag.insert.Goals as goal

pub returns-in-Some-clause-put : goal.returns-in-Some-clause-put
returns-in-Some-clause-put g c = let a = c.args.local.now in let b = c.keep.new.local in let d = c.insert.new.local in let bag = c.args.self.now in let links = c.args.links.now in let cell : ℕ = bag.overflow.first.cell in let back = c.in-Some.back in
    on_ok_weaker c.insert.result (λ (put : HasPutBefore b links cell back d). into_overflow bag links a b d back c.args.owner c.keep.ensures.same.0.0 c.keep.ensures.some c.in-Some.ensures.back.2 put) c.insert.ensures.put

pub returns-in-None-clause-put : goal.returns-in-None-clause-put
returns-in-None-clause-put g c = inl c.in-None.ensures.put
