use Rattle.std.proofs.Common.{List, take, drop, sym, subst}
use Rattle.atomic_table.specs.Table.{Splits}
use Rattle.sdd_homes.specs.declared.Owner.{Owner}
use Rattle.domain_table.specs.Contents.{IsIn}
use Rattle.domain_table.specs.Rule.{Shows}
use Rattle.domain_table.specs.Views.{spent}
use Rattle.domain_table.proofs.OwnerSeats.{parts_with}
use Rattle.domain_table.proofs.owners.part_with.Goals as goal

pub split_seat-requires : goal.split_seat-requires
split_seat-requires g c = let q = c.requires.owner in let seat = c.args.seat.now in let d = seat.me.0 in let plan = c.args.words.now.key in (
  c.requires.table.0,
  c.requires.table.1,
  subst (λ (hs : List Owner). Splits (Shows (IsIn g.H.Holding.holds) plan) seat.id d (record d { hand = drop 1 hs }) (record spent { kind = 3; hand = take 1 hs })) (sym q.2) (parts_with _ (IsIn g.H.Holding.holds) plan seat.id d q.0 q.1 c.requires.ready.0 c.requires.ready.1 q.2),
)
