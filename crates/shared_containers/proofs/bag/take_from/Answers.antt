use Rattle.sdd_plain.specs.Epochs.{tag_number}
use Rattle.shared_containers.proofs.TakenLemmas.{read_some, swap_takes}
use Rattle.shared_containers.proofs.bag.take_from.Goals as goal

pub returns-clause-taken : goal.returns-clause-taken
returns-clause-taken g c = let a = c.args.local.now in let b = c.is_null.new.local in let cell = c.args.cell.now.cell in let e = c.is_null.ensures.looked in
    swap_takes a b c.swap-owner.new.local cell (tag_number c.swap-owner.result.1) c.swap-owner.result.0 c.is_null.ensures.same.0.0.0 (read_some a b cell e.0 e.1 e.2) c.swap-owner.ensures.exchanged
