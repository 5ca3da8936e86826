use Rattle.shared_containers.specs.Put.{HasFilledOneOf}
use Rattle.shared_containers.proofs.FillLemmas.{none_then, one_filled_behind, one_filled_quiet}
use Rattle.shared_containers.proofs.TakenLemmas.{quiet_some, some_then}
use Rattle.shared_containers.proofs.bag.Bag.keep.Goals as goal

pub returns-clause-put : goal.returns-clause-put
returns-clause-put g c = let a = c.args.local.now in let b = c.new.new.local in let d = c.keep_under-back.new.local in let e = c.close.new.local in let row = c.args.self.now.primary in let owner = c.args.owner in
    none_then c.keep_under-back.result (λ (put : HasFilledOneOf b row owner d). one_filled_quiet a d e row owner (one_filled_behind a b d row owner c.new.ensures.same.0 (quiet_some a b c.new.ensures.cells) put) c.close.ensures.cells) c.keep_under-back.ensures.put

pub returns-clause-some : goal.returns-clause-some
returns-clause-some g c = let a = c.args.local.now in let b = c.new.new.local in let d = c.keep_under-back.new.local in let e = c.close.new.local in
    some_then a b e (quiet_some a b c.new.ensures.cells) (some_then b d e c.keep_under-back.ensures.some (quiet_some d e c.close.ensures.cells))
