use Rattle.std.proofs.Common.{arith}
use Rattle.local_versions.proofs.PlacingLemmas.{no_vacancy}
use Rattle.local_versions.proofs.placing.place_segment.Goals as goal

pub unreachable-requires : goal.unreachable-requires
unreachable-requires g c = let none = no_vacancy c.args.w.now.states c.in-Err.ensures.refused.2 in let some = c.requires in omega (arith, none, some)
