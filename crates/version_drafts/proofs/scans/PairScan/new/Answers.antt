use Rattle.std.proofs.Common.{refl, ◌∙◌, ap}
use Rattle.version_views.specs.ChangeScans.{unread}
use Rattle.version_views.proofs.ChangeScanLemmas.{from_start, started_first}
use Rattle.version_drafts.proofs.scans.PairScan.new.Goals as goal

pub invariant_of-result : goal.invariant_of-result
invariant_of-result g c = rw (c.next.ensures.steps.1, c.iter-cursor.ensures.cursor) (record { from = refl; upto = refl; alone = refl; started = started_first g.K.Ord.cmp c.args.tree.now.pairs })

pub returns : goal.returns
returns g c = ap unread (c.next.ensures.steps.1) ∙ rw c.iter-cursor.ensures.cursor (from_start g.K.Ord.cmp c.args.tree.now.pairs)
