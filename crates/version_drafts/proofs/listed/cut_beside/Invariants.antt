use Rattle.std.proofs.Common.{◌≡◌, take}
use Rattle.version_drafts.specs.Cutting.{CountsFrom, IsCutting, given_pairs, room_spent}
use Rattle.version_drafts.proofs.listed.cut_beside.Given as goal

-- the first pairs were given, and trees were begun for as many
abbrev pub invariant-loop-pair : goal.invariant-loop-pair
invariant-loop-pair g l = record {
  whole : IsCutting g.K.Ord.cmp g.row.S l.old l.out;
  given : given_pairs l.old l.out ≡ take l.pair-index l.pairs;
  spent : room_spent g.row.S l.out ≡ l.pair-index;
  counted : CountsFrom l.old 0 l.out;
}
