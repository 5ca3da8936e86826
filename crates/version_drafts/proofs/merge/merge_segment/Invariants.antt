use Rattle.std.proofs.Common.{◌≡◌, ◌⊎◌, ◌<◌, ◌≤◌, ◌++◌, ◌+◌, cond, false, [], List, Some, drop, length}
use Rattle.std.specs.Prelude.{slice_get}
use Rattle.leaf_array.specs.Pairs.{IsAscending}
use Rattle.version_drafts.specs.Changes.{ahead, apply_delta}
use Rattle.version_drafts.specs.Gone.{without_gone}
use Rattle.version_views.specs.Cuts.{pairs_in}
use Rattle.version_drafts.specs.Cutting.{CountsFrom, IsCutting, GivesNoMoreThanRead, IsReachedBy, given_pairs}
use Rattle.version_drafts.proofs.merge.merge_segment.Given as goal

-- what is given, and what is yet to be merged
abbrev pub invariant-loop-more : goal.invariant-loop-more
invariant-loop-more g l =
    let cmp = g.K.Ord.cmp in
    let blocks = l.old in
    let rest = without_gone cmp l.gone (pairs_in (drop (l.here.place + 1) blocks)) in
    record {
      whole : IsCutting cmp g.row.S blocks l.out;
      list : given_pairs blocks l.out ++ apply_delta cmp l.changes (l.pairs ++ rest) ≡ given_pairs blocks l.fn.out ++ ahead cmp l.fn.changes l.gone l.here.place blocks;
      sorted : IsAscending cmp (l.pairs ++ rest);
      filled : (b : List (g.row.K.Denot × g.row.V.Denot)) → Some b ≡ slice_get blocks l.here.place → GivesNoMoreThanRead g.row.S (length (without_gone cmp l.gone b) + length l.fn.changes) (length l.pairs + length l.changes) l.fn.out l.out;
      fewer : length l.changes ≤ length l.fn.changes;
      reached : (b : List (g.row.K.Denot × g.row.V.Denot)) → Some b ≡ slice_get blocks l.here.place → IsReachedBy cmp l.fn.changes (without_gone cmp l.gone b) → IsReachedBy cmp l.changes l.pairs ⊎ (length l.changes < length l.fn.changes);
      done : l.more ≡ false → l.pairs ≡ [];
      counted : CountsFrom blocks (l.here.place + 1) l.out;
    }

abbrev pub decreases-loop-more : goal.decreases-loop-more
decreases-loop-more g l = cond l.more 1 0 + (length l.changes + length l.pairs)
