use Rattle.domain_table.specs.Contents.{IsIn}
use Rattle.domain_table.proofs.BagSeats.{parts_bag}
use Rattle.domain_garbage.proofs.private.part_bag.Goals as goal

pub split_seat-requires : goal.split_seat-requires
split_seat-requires g c = let seat = c.args.seat.now in (c.requires.table.0, c.requires.table.1, parts_bag _ (IsIn g.H.Holding.holds) c.args.words.now.key seat.id seat.me.0 c.requires.ready)
