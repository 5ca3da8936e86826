use Rattle.std.proofs.Common.{length, sym, ◌∙◌}
use Rattle.std.proofs.lemmas.Bool.{eqb-true}
use Rattle.version_drafts.proofs.RangeLemmas.{left_empty}
use Rattle.version_drafts.proofs.scans.pass_gone.Goals as goal

pub returns-then-is_empty-clause-left : goal.returns-then-is_empty-clause-left
returns-then-is_empty-clause-left g c = left_empty g.K.Ord.cmp c.args.gone.now (eqb-true (length c.args.gone.now) 0 (sym c.is_empty.ensures ∙ c.if-is_empty.true)) c.args.pairs.now
