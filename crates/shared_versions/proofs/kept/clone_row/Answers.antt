use Rattle.shared_versions.proofs.OwnedLemmas.{same_row}
use Rattle.shared_versions.proofs.kept.clone_row.Goals as goal

pub returns-in-Ok-clause-own : goal.returns-in-Ok-clause-own
returns-in-Ok-clause-own g c = same_row c.args.domain.now.table.shared.table_id c.args.owner c.in-Ok.own c.in-Ok.ensures.home.0 (λ x h. (c.in-Ok.ensures.item x h).0) c.requires.mine

pub returns-in-Ok-clause-other : goal.returns-in-Ok-clause-other
returns-in-Ok-clause-other g c = same_row c.args.domain.now.table.shared.table_id c.args.owner c.in-Ok.other c.in-Ok.ensures.home.1 (λ x h. (c.in-Ok.ensures.item x h).1) c.requires.mine

pub returns-in-Err-clause-own : goal.returns-in-Err-clause-own
returns-in-Err-clause-own g c = same_row c.args.domain.now.table.shared.table_id c.args.owner c.in-Err.own c.in-Err.ensures.back.0 c.in-Err.ensures.back.1 c.requires.mine
