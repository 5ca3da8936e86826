use Rattle.std.proofs.Common.{◌≡◌, ◌++◌, [], length}
use Rattle.version_drafts.specs.Changes.{apply_delta}
use Rattle.version_drafts.specs.Cutting.{CountsGiven, IsCutting, GivesNoMoreThanRead, given_pairs}
use Rattle.version_drafts.proofs.merge.put_all.Given as goal

-- what is given, and what is left
abbrev pub invariant-loop-changed : goal.invariant-loop-changed
invariant-loop-changed g l =
    let cmp = g.K.Ord.cmp in
    let blocks = l.old in
    record {
      whole : IsCutting cmp g.row.S l.old l.out;
      list : given_pairs blocks l.out ++ apply_delta cmp l.changes [] ≡ given_pairs blocks l.fn.out ++ apply_delta cmp l.fn.changes [];
      filled : GivesNoMoreThanRead g.row.S (length l.fn.changes) (length l.changes) l.fn.out l.out;
      counted : CountsGiven blocks l.fn.out l.out;
    }

abbrev pub decreases-loop-changed : goal.decreases-loop-changed
decreases-loop-changed g l = length l.changes
