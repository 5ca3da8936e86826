use Rattle.std.proofs.lemmas.Result.{on_ok_weaker}
use Rattle.version_drafts.proofs.merge.merge_more.Goals as goal

pub returns-clause-reached : goal.returns-clause-reached
returns-clause-reached g c = on_ok_weaker c.merge_next.result (λ next. λ reached. next (c.in_ok-copy_run.ensures.reached reached)) c.merge_next.ensures.reached
