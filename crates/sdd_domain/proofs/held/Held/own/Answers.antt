use Rattle.sdd_domain.proofs.Hands.{first_held}
use Rattle.sdd_domain.specs.Holding.{told_of}
use Rattle.sdd_domain.proofs.held.Held.own.Goals as goal

pub part_with-calm-requires-clause-owner : goal.part_with-calm-requires-clause-owner
part_with-calm-requires-clause-owner g c = let f = first_held c.args.local.now.seat.me.0.hand (told_of c.args.self) c.requires.first.0 c.requires.first.1 in (f.0, f.1, f.2)
