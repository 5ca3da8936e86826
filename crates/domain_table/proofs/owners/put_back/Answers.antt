use Rattle.std.proofs.Common.{◌≡◌, ℕ, List, ◌∷◌, sym, refl, ap, ◌∙◌, subst}
use Rattle.atomic_table.specs.Table.{Me, rest}
use Rattle.sdd_homes.specs.declared.Lease.{Lease}
use Rattle.sdd_homes.specs.Book.{part}
use Rattle.domain_table.specs.Contents.{IsIn}
use Rattle.domain_table.specs.Leases.{HasEmptied}
use Rattle.domain_table.specs.Plays.{own_home, CanKeep}
use Rattle.domain_table.specs.declared.board.Acting.{Acting}
use Rattle.domain_table.specs.declared.board.Home.{Home}
use Rattle.domain_table.specs.declared.board.Home.TheVariants.{Blank}
use Rattle.domain_table.proofs.Fronts.{put_in}
use Rattle.domain_table.proofs.owners.put_back.Goals as goal

-- the home has its parts again
module _ {T : Type 0} (holds : T → List (ℕ × ℕ)) (m m' : Me (Home T) Acting) (at : ℕ) (l : Lease) (ls : List Lease) (tail : List (ℕ × Home T)) (e : HasEmptied m at l ls tail) (r y : Home T) (front : m.1 ≡ (at, r) ∷ rest m.1) (is : m' ≡ (m.0, (at, y) ∷ rest m.1)) where
  filled : m' ≡ (m.0, (own_home m.0 l.slot, y) ∷ tail)
  filled = put_in m m' (own_home m.0 l.slot) at Blank r y tail (e.3 ∙ λ j. (e.2 j, Blank) ∷ tail) front is

  can : IsIn holds (part l.round l.count) y → CanKeep (IsIn holds) m' l ls tail
  can is_in = subst (λ (z : Me (Home T) Acting). CanKeep (IsIn holds) z l ls tail) (sym filled) (e.0, e.1, (y, is_in, refl))

pub keep_home-requires-clause-out : goal.keep_home-requires-clause-out
keep_home-requires-clause-out g c = let o = c.requires.out in let x = c.exchange.ensures in let m = c.args.seat.now.me in let m' = c.exchange.new.seat.me in
    (ap (λ (z : Me _ Acting). z.0.kind) x.3 ∙ c.requires.table.2, (o.0, o.1, o.2, can g.H.Holding.holds m m' c.args.home o.0 o.1 o.2 o.3 c.exchange.result c.args.parts x.2 x.3 o.4))

pub returns-clause-kept : goal.returns-clause-kept
returns-clause-kept g c = λ l ls tail e is_in. let x = c.exchange.ensures in let m = c.args.seat.now.me in let m' = c.exchange.new.seat.me in
    c.keep_home.ensures.kept l ls tail (can g.H.Holding.holds m m' c.args.home l ls tail e c.exchange.result c.args.parts x.2 x.3 is_in) ∙ ap (λ (z : Me _ Acting). (record z.0 { leases = ls; releasing = 0 }, tail)) x.3
