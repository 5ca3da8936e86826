use Rattle.std.proofs.Common.{◌≡◌, ℕ, List, ◌∷◌, Option, None, Some, IsSome, IsSomeAnd, map, ap, sym, ◌∙◌, subst, refl}
use Rattle.atomic_table.specs.Table.{Me, rest}
use Rattle.core.specs.declared.mem.manually_drop.ManuallyDrop.{ManuallyDrop}
use Rattle.std.specs.Mem.{manually_drop_value}
use Rattle.sdd_plain.specs.declared.sizes.Sizes.{Sizes}
use Rattle.sdd_homes.specs.declared.Filling.{Filling}
use Rattle.sdd_homes.specs.declared.Owner.{Owner}
use Rattle.sdd_homes.specs.Book.{deed}
use Rattle.domain_table.specs.Contents.{IsIn}
use Rattle.domain_table.specs.Owners.{told}
use Rattle.domain_table.specs.Plays.{deed_home, filling_at, CanVacate}
use Rattle.domain_table.specs.declared.board.Acting.{Acting}
use Rattle.domain_table.specs.declared.board.Home.{Home}
use Rattle.domain_table.specs.declared.board.Home.TheVariants.{Blank, Room}
use Rattle.domain_table.proofs.Fronts.{came_out, put_in}
use Rattle.domain_garbage.specs.Opened.{IsOpened}
use Rattle.domain_garbage.proofs.reclaiming.take_whole.Goals as goal

-- the deed of the item was out, and its home is empty now
module _ {T : Type 0} (holds : T → List (ℕ × ℕ)) (k i : ℕ) (m1 m2 : Me (Home T) Acting) (hs : List Owner) (tail : List (ℕ × Home T)) (o : IsOpened (IsIn holds) m1 k hs tail) (r : Home T) (front : m1.1 ≡ (i, r) ∷ rest m1.1) (new : m2 ≡ (m1.0, (i, Blank) ∷ rest m1.1)) where
  abbrev at : ℕ
  at = deed_home m1.0 k

  had : IsIn holds (deed o.f.round hs) r
  had = subst (IsIn holds (deed o.f.round hs)) (sym (came_out m1 at i o.deed_out r tail o.front front)) o.is

  emptied : m2 ≡ (m1.0, (at, Blank) ∷ tail)
  emptied = put_in m1 m2 at i o.deed_out r Blank tail o.front front new

  -- all parts came home, and the room is back
  module _ (m3 m4 : Me (Home T) Acting) (g : Filling) (i' : ℕ) (r' y : Home T) (gathered : m3 ≡ (filling_at k g m2.0, m2.1)) (front' : m3.1 ≡ (i', r') ∷ rest m3.1) (second : m4 ≡ (m3.0, (i', y) ∷ rest m3.1)) where
    whole : m3 ≡ (filling_at k g m1.0, (at, Blank) ∷ tail)
    whole = gathered ∙ ap (λ (t : Me (Home T) Acting). (filling_at k g t.0, t.1)) emptied

    restored : m4 ≡ (filling_at k g m1.0, (at, y) ∷ tail)
    restored = put_in m3 m4 at i' Blank r' y tail (ap (λ (t : Me (Home T) Acting). t.1) whole) front' second ∙ ap (λ (t : Me (Home T) Acting). (t.0, (at, y) ∷ tail)) whole

    can : g.filled ≡ 0 → g.out ≡ m1.0.sizes.participants → (b : _) × (y ≡ Room b) → CanVacate (IsIn holds) m4 g tail
    can none is_out room = subst (λ m. CanVacate (IsIn holds) m g tail) (sym restored) (refl, none, is_out, (y, room, refl))

    after : (m5 : Me (Home T) Acting) → m5 ≡ (record m4.0 { filling = None }, tail) → m5 ≡ (record m1.0 { filling = None }, tail)
    after m5 e = e ∙ (ap (λ (t : Me (Home T) Acting). (record t.0 { filling = None }, tail)) restored ∙ λ j. (record m1.0 { slot = sym o.at j; filling = None }, tail))

-- a deed that tells of an item is of one, and what it tells stands of the item that comes back
is_there : {T : Type 0} (P : ManuallyDrop T → Type 0) (o : Option (ManuallyDrop T)) → IsSomeAnd o P → IsSome o
is_there P None there = absurd (there)
is_there P (Some m) there = refl

had_back : {T : Type 0} (holds : T → List (ℕ × ℕ)) (o : Option (ManuallyDrop T)) (item : T) (hs : List Owner) → IsSomeAnd o (λ m. holds (manually_drop_value m) ≡ map told hs) → IsSomeAnd o (λ m. manually_drop_value m ≡ item) → holds item ≡ map told hs
had_back holds None item hs tells is = absurd (tells)
had_back holds (Some m) item hs tells is = ap holds (sym is) ∙ tells

pub deed_of-deed-requires : goal.deed_of-deed-requires
deed_of-deed-requires g c = let m = c.args.seat.now.me in let q = c.requires.opened in let o = q.2 in let e = c.exchange.ensures in
    (o.f.round, q.0, had g.H.Holding.holds c.args.slot c.home_of-own.result m c.exchange.new.seat.me q.0 q.1 o c.exchange.result e.2 e.3)

pub gather_all-all-requires-clause-filled : goal.gather_all-all-requires-clause-filled
gather_all-all-requires-clause-filled g c = let m = c.args.seat.now.me in let q = c.requires.opened in let o = q.2 in let e = c.exchange.ensures in
    let is = emptied g.H.Holding.holds c.args.slot c.home_of-own.result m c.exchange.new.seat.me q.0 q.1 o c.exchange.result e.2 e.3 in let wide = ap (λ (z : Sizes). z.participants) c.requires.table.0.2 in
    (o.f, ap (λ (z : Me _ Acting). z.0.filling) is ∙ o.fills, o.all ∙ wide, o.back ∙ wide, o.none)

pub take_out-item-requires : goal.take_out-item-requires
take_out-item-requires g c = let m = c.args.seat.now.me in let q = c.requires.opened in let o = q.2 in let e = c.exchange.ensures in let i : ℕ = c.home_of-own.result in
    let is = emptied g.H.Holding.holds c.args.slot i m c.exchange.new.seat.me q.0 q.1 o c.exchange.result e.2 e.3 in let a = c.gather_all-all.ensures.gathered o.f (ap (λ (z : Me _ Acting). z.0.filling) is ∙ o.fills) in
    let d = c.deed_of-deed.ensures o.f.round q.0 (had g.H.Holding.holds c.args.slot i m c.exchange.new.seat.me q.0 q.1 o c.exchange.result e.2 e.3) in (a.3 ∙ sym d.0, c.gather_all-all.ensures.all, is_there _ c.deed_of-deed.result.value d.1)

pub vacate-requires-clause-emptied : goal.vacate-requires-clause-emptied
vacate-requires-clause-emptied g c = let m = c.args.seat.now.me in let q = c.requires.opened in let o = q.2 in let e = c.exchange.ensures in let e' = c.exchange-2.ensures in let i : ℕ = c.home_of-own.result in
    let m2 = c.exchange.new.seat.me in let m3 = c.gather_all-all.new.seat.me in let m4 = c.exchange-2.new.seat.me in let r = c.exchange.result in let r' = c.exchange-2.result in let y = Room c.take_out-item.result.1 in
    let is = emptied g.H.Holding.holds c.args.slot i m m2 q.0 q.1 o r e.2 e.3 in let a = c.gather_all-all.ensures.gathered o.f (ap (λ (z : Me _ Acting). z.0.filling) is ∙ o.fills) in
    let back = restored g.H.Holding.holds c.args.slot i m m2 q.0 q.1 o r e.2 e.3 m3 m4 a.0 i r' y a.4 e'.2 e'.3 in
    let ready = can g.H.Holding.holds c.args.slot i m m2 q.0 q.1 o r e.2 e.3 m3 m4 a.0 i r' y a.4 e'.2 e'.3 a.1 (a.2 ∙ sym (ap (λ (z : Sizes). z.participants) c.requires.table.0.2)) (_, refl) in
    (ap (λ (z : Me _ Acting). z.0.kind) back ∙ c.requires.acts, ap (λ (z : Me _ Acting). z.0.slot) back, (a.0, q.1, ready))

pub returns-clause-taken : goal.returns-clause-taken
returns-clause-taken g c = λ hs tail o. let m = c.args.seat.now.me in let e = c.exchange.ensures in let e' = c.exchange-2.ensures in let i : ℕ = c.home_of-own.result in
    let m2 = c.exchange.new.seat.me in let m3 = c.gather_all-all.new.seat.me in let m4 = c.exchange-2.new.seat.me in let r = c.exchange.result in let r' = c.exchange-2.result in let y = Room c.take_out-item.result.1 in
    let is = emptied g.H.Holding.holds c.args.slot i m m2 hs tail o r e.2 e.3 in let a = c.gather_all-all.ensures.gathered o.f (ap (λ (z : Me _ Acting). z.0.filling) is ∙ o.fills) in
    let ready = can g.H.Holding.holds c.args.slot i m m2 hs tail o r e.2 e.3 m3 m4 a.0 i r' y a.4 e'.2 e'.3 a.1 (a.2 ∙ sym (ap (λ (z : Sizes). z.participants) c.requires.table.0.2)) (_, refl) in
    let d = c.deed_of-deed.ensures o.f.round hs (had g.H.Holding.holds c.args.slot i m m2 hs tail o r e.2 e.3) in (
      had_back g.H.Holding.holds c.deed_of-deed.result.value c.take_out-item.result.0 hs d.1 c.take_out-item.ensures,
      after g.H.Holding.holds c.args.slot i m m2 hs tail o r e.2 e.3 m3 m4 a.0 i r' y a.4 e'.2 e'.3 c.vacate.new.seat.me (c.vacate.ensures.vacant a.0 tail ready),
    )
