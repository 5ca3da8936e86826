use Rattle.std.proofs.Common.{◌≡◌, ◌≤◌, ◌++◌, drop}
use Rattle.std.specs.List.{All}
use Rattle.version_drafts.specs.Changes.{changed, named_by}
use Rattle.version_views.specs.Cuts.{pairs_in}
use Rattle.version_drafts.specs.Gone.{IsSpan}
use Rattle.version_views.specs.Writes.{after_writes, replies_to}
use Rattle.version_drafts.proofs.draft.drafted.Given as goal

-- what is done, and what is yet to be
abbrev pub invariant-loop-write : goal.invariant-loop-write
invariant-loop-write g l =
    let cmp = g.K.Ord.cmp in
    let blocks = l.old in
    let old = pairs_in blocks in
    record {
      list : after_writes cmp (drop l.write-index l.writes) (changed cmp l.changes old) ≡ after_writes cmp l.writes old;
      few : named_by l.changes ≤ l.write-index;
      spans : All (IsSpan cmp blocks) l.changes.gone.items;
      replies : l.replies.items ++ replies_to cmp (drop l.write-index l.writes) (changed cmp l.changes old) ≡ replies_to cmp l.writes old;
    }
