use Rattle.sdd_domain.proofs.Values.{one_value}
use Rattle.sdd_domain.proofs.shared.Shared.get_guarded_ref.Goals as goal

pub returns-clause-same_item : goal.returns-clause-same_item
returns-clause-same_item g c = λ x own. one_value c.loaded-owner.result.1.seen x c.in-Some.item.now (c.loaded-owner.ensures.same_item x own) c.in-Some.ensures.item
