use Rattle.std.proofs.Common.{◌∙◌, ap, nat_cmp}
use Rattle.tree_index.specs.Cursor.{unread}
use Rattle.version_views.proofs.ChangeScanLemmas.{from_start}
use Rattle.version_tests.proofs.listed.started.Goals as goal

pub returns : goal.returns
returns c = ap unread (c.next-first.ensures.steps.1) ∙ rw c.iter-cursor.ensures.cursor (from_start nat_cmp c.args.tree.now.pairs)
