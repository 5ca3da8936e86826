use Rattle.local_index.proofs.ReceiptLemmas.{audited, committed, committed_session, opened, read_more, rebased, rebased_session, same_receipt, same_session}
use Rattle.local_index.proofs.laws.own_receipts_audit_yes.Goals as goal

pub returns-clause-opens : goal.returns-clause-opens
returns-clause-opens g c = opened g.K.Ord.cmp

pub returns-clause-reads : goal.returns-clause-reads
returns-clause-reads g c = read_more g.K.Ord.cmp

pub returns-clause-commits : goal.returns-clause-commits
returns-clause-commits g c = committed_session g.K.Ord.cmp

pub returns-clause-commits_receipts : goal.returns-clause-commits_receipts
returns-clause-commits_receipts g c = committed g.K.Ord.cmp

pub returns-clause-checkpoints : goal.returns-clause-checkpoints
returns-clause-checkpoints g c = rebased_session g.K.Ord.cmp

pub returns-clause-checkpoints_receipts : goal.returns-clause-checkpoints_receipts
returns-clause-checkpoints_receipts g c = rebased g.K.Ord.cmp

pub returns-clause-others : goal.returns-clause-others
returns-clause-others g c = same_session g.K.Ord.cmp

pub returns-clause-others_receipts : goal.returns-clause-others_receipts
returns-clause-others_receipts g c = same_receipt g.K.Ord.cmp

pub returns-clause-audits : goal.returns-clause-audits
returns-clause-audits g c = audited g.K.Ord.cmp
