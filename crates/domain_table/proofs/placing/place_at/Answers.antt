use Rattle.std.proofs.Common.{◌≡◌, ℕ, ◌∷◌, Option, None, Some, IsSomeAnd, map, ap, sym, ◌∙◌, subst, refl, List}
use Rattle.atomic_table.specs.Table.{Me, rest}
use Rattle.core.specs.declared.mem.manually_drop.ManuallyDrop.{ManuallyDrop}
use Rattle.std.specs.Mem.{manually_drop_value}
use Rattle.sdd_plain.specs.declared.sizes.Sizes.{Sizes}
use Rattle.sdd_homes.specs.declared.Filling.{Filling}
use Rattle.sdd_homes.specs.declared.Owner.{Owner}
use Rattle.sdd_homes.specs.Book.{deed}
use Rattle.domain_table.specs.Contents.{IsIn}
use Rattle.domain_table.specs.Owners.{told}
use Rattle.domain_table.specs.Plays.{IsJustClaimed, claimed_by, deed_home, filling_at, CanPlace, placing}
use Rattle.domain_table.specs.declared.board.Acting.{Acting}
use Rattle.domain_table.specs.declared.board.Home.{Home}
use Rattle.domain_table.specs.declared.board.Home.TheVariants.{Blank, Deed}
use Rattle.domain_table.proofs.Fronts.{put_in}
use Rattle.domain_table.proofs.placing.place_at.Goals as goal

-- the deed lies in the home that was out
module _ {T : Type 0} (holds : T → List (ℕ × ℕ)) (k i i' : ℕ) (m0 m1 m2 : Me (Home T) Acting) (r r' b y : Home T) (claimed : IsJustClaimed (IsIn holds) m0 k)
    (front : m0.1 ≡ (i, r) ∷ rest m0.1) (first : m1 ≡ (m0.0, (i, b) ∷ rest m0.1)) (front' : m1.1 ≡ (i', r') ∷ rest m1.1) (second : m2 ≡ (m1.0, (i', y) ∷ rest m1.1)) where
  abbrev at : ℕ
  at = deed_home m0.0 k

  emptied : m1 ≡ (m0.0, (at, b) ∷ rest m0.1)
  emptied = put_in m0 m1 at i claimed.2.0 r b (rest m0.1) claimed.2.2 front first

  stored : m2 ≡ (m0.0, (at, y) ∷ rest m0.1)
  stored = put_in m1 m2 at i' b r' y (rest m0.1) (ap (λ (z : Me (Home T) Acting). z.1) emptied) front' second ∙ ap (λ (z : Me (Home T) Acting). (z.0, (at, y) ∷ rest m0.1)) emptied

  -- and all other homes are filled
  module _ (m3 : Me (Home T) Acting) (f : Filling) (filled : m3 ≡ (filling_at k f m2.0, m2.1)) where
    all : m3 ≡ (filling_at k f m0.0, (at, y) ∷ rest m0.1)
    all = filled ∙ ap (λ (z : Me (Home T) Acting). (filling_at k f z.0, z.1)) stored

    can : f.filled ≡ m0.0.sizes.participants → f.left ≡ 1 → IsIn holds (deed f.round m0.0.hand) y → CanPlace (IsIn holds) m3 f (rest m0.1)
    can most left is_in = subst (λ m. CanPlace (IsIn holds) m f (rest m0.1)) (sym all) (refl, most, left, (y, is_in, refl))

    after : (n : ℕ) (m4 : Me (Home T) Acting) → m4 ≡ (placing n f m3.0, rest m0.1) → m4 ≡ (placing n f m0.0, rest m0.1)
    after n m4 e = e ∙ (ap (λ (z : Me (Home T) Acting). (placing n f z.0, rest m0.1)) all ∙ λ j. (placing n f (record m0.0 { slot = sym claimed.1 j }), rest m0.1))

-- the deed's value holds what is in hand
holding : {T : Type 0} (holds : T → List (ℕ × ℕ)) (o : Option (ManuallyDrop T)) (item : T) (hand : List Owner) → IsSomeAnd o (λ m. manually_drop_value m ≡ item) → holds item ≡ map told hand → IsSomeAnd o (λ m. holds (manually_drop_value m) ≡ map told hand)
holding holds None item hand there e = there
holding holds (Some m) item hand there e = ap holds there ∙ e

pub fill_homes-requires-clause-filling : goal.fill_homes-requires-clause-filling
fill_homes-requires-clause-filling g c = let m = c.args.seat.now.me in let own : ℕ = c.home_of-own.result in let e = c.exchange.ensures in let e' = c.exchange-2.ensures in let q = c.requires.claimed in
    let is = stored g.H.Holding.holds c.args.slot own own m c.exchange.new.seat.me c.exchange-2.new.seat.me c.exchange.result c.exchange-2.result Blank (Deed c.store-deed.result.0) q e.2 e.3 e'.2 e'.3 in
    (claimed_by m.0, ap (λ (z : Me _ Acting). z.0.filling) is ∙ q.0, refl, ap (λ (z : Sizes). z.participants) c.requires.table.2, refl)

pub place-requires-clause-filled : goal.place-requires-clause-filled
place-requires-clause-filled g c = let m = c.args.seat.now.me in let own : ℕ = c.home_of-own.result in let e = c.exchange.ensures in let e' = c.exchange-2.ensures in let q = c.requires.claimed in let x = c.fill_homes.ensures.filled in let d = c.store-deed in (
  x.0,
  rest m.1,
  can g.H.Holding.holds c.args.slot own own m c.exchange.new.seat.me c.exchange-2.new.seat.me c.exchange.result c.exchange-2.result Blank (Deed d.result.0) q e.2 e.3 e'.2 e'.3 c.fill_homes.new.seat.me x.0 x.5
      (x.1 ∙ ap (λ (z : Sizes). z.participants) (sym c.requires.table.2)) x.3 (d.result.0, refl, sym d.ensures.round.0 ∙ sym x.4, holding g.H.Holding.holds d.result.0.value c.args.item m.0.hand d.ensures.there c.requires.ready.3),
)

pub returns-clause-placed : goal.returns-clause-placed
returns-clause-placed g c = let m = c.args.seat.now.me in let own : ℕ = c.home_of-own.result in let e = c.exchange.ensures in let e' = c.exchange-2.ensures in let q = c.requires.claimed in let x = c.fill_homes.ensures.filled in let d = c.store-deed in
    let m1 = c.exchange.new.seat.me in let m2 = c.exchange-2.new.seat.me in let m3 = c.fill_homes.new.seat.me in let r = c.exchange.result in let r' = c.exchange-2.result in let y = Deed d.result.0 in
    let ready = can g.H.Holding.holds c.args.slot own own m m1 m2 r r' Blank y q e.2 e.3 e'.2 e'.3 m3 x.0 x.5 (x.1 ∙ ap (λ (z : Sizes). z.participants) (sym c.requires.table.2)) x.3 (d.result.0, refl, sym d.ensures.round.0 ∙ sym x.4, holding g.H.Holding.holds d.result.0.value c.args.item m.0.hand d.ensures.there c.requires.ready.3) in
    let p = c.place.ensures.placed x.0 (rest m.1) ready in
    (p.0, x.0, x.4 ∙ sym (ap (λ z. z.life.id) c.from_part.ensures ∙ ap (λ z. z.id) c.fill_homes.ensures.rest.1), after g.H.Holding.holds c.args.slot own own m m1 m2 r r' Blank y q e.2 e.3 e'.2 e'.3 m3 x.0 x.5 p.0 c.place.new.seat.me p.1)
