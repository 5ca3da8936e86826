use Rattle.std.proofs.Common.{◌≡◌, ◌*◌, ◌-◌, ◌+◌, ◌++◌, Bool, drop, length}
use Rattle.version_drafts.specs.Changes.{ahead, apply_delta}
use Rattle.version_views.specs.Cuts.{pairs_in}
use Rattle.version_drafts.specs.Cutting.{CountsFrom, IsCutting, IsThrifty, given_pairs}
use Rattle.version_drafts.specs.Gone.{is_gone, without_gone}
use Rattle.version_drafts.proofs.merge.merged_with.Given as goal

-- what is given, and what is yet to be merged
abbrev pub invariant-loop-place : goal.invariant-loop-place
invariant-loop-place g l =
    let cmp = g.K.Ord.cmp in
    let blocks = l.old in
    let gone = l.gone in
    record {
      whole : IsCutting cmp g.row.S blocks l.out;
      list : given_pairs blocks l.out ++ ahead cmp l.left gone l.place blocks ≡ apply_delta cmp l.edits (without_gone cmp gone (pairs_in blocks));
      thrifty : (last : Bool) × IsThrifty g.row.S (2 * (length l.edits + length gone)) (is_gone cmp gone) last (drop l.place blocks) (length l.left) l.out;
      counted : CountsFrom blocks l.place l.out;
    }

abbrev pub decreases-loop-place : goal.decreases-loop-place
decreases-loop-place g l = l.count - l.place
