use Rattle.std.proofs.Common.{◌≡◌, [], ◌∷◌, ◌++◌, ap, sym, ◌∙◌, subst}
use Rattle.atomic_table.specs.declared.badge.Badge.{Badge}
use Rattle.atomic_table.specs.Table.{Joins}
use Rattle.domain_table.specs.Contents.{IsIn}
use Rattle.domain_table.specs.Rule.{Shows}
use Rattle.domain_table.specs.Views.{spent, holding}
use Rattle.domain_table.specs.declared.board.Acting.{Acting}
use Rattle.domain_table.proofs.OwnerSeats.{takes_in}
use Rattle.domain_table.proofs.owners.take_in.Goals as goal

pub join_seat-requires : goal.join_seat-requires
join_seat-requires g c = let q = c.requires.owner in let seat = c.args.seat.now in let d = seat.me.0 in let plan = c.args.words.now.key in let e = c.into_seat.ensures in let badge = c.into_badge.ensures in let lists : holding q.0 ∷ [] ≡ c.into_seat.result.me.0 ∷ [] = sym q.1 ∙ (sym (ap (λ (b : Badge Acting). b.views) badge) ∙ e.2) in let same : holding q.0 ≡ c.into_seat.result.me.0 = cc in (
  c.requires.table.0,
  e.0 ∙ (ap (λ (b : Badge Acting). b.table_id) badge ∙ c.requires.table.1),
  e.3,
  c.requires.table.2,
  subst (λ (w : Acting). Joins (Shows (IsIn g.H.Holding.holds) plan) seat.id d c.into_seat.result.id w (record d { hand = w.hand ++ d.hand }) spent) same (takes_in _ (IsIn g.H.Holding.holds) plan seat.id d c.into_seat.result.id q.0 c.requires.ready),
)
