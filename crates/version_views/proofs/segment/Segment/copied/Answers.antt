use Rattle.std.proofs.Common.{length, ap, arith}
use Rattle.version_views.proofs.segment.Segment.copied.Goals as goal

pub invariant_of-result : goal.invariant_of-result
invariant_of-result g c = record {
  places = c.in_ok-clone.ensures.ascending_headroom;
  few = let same = ap length c.in_ok-clone.ensures.pairs in omega (arith, same, c.requires.few);
}
