use Rattle.std.proofs.Common.{◌≡◌, ◌⊎◌, ℕ, ◌<◌, ◌≤◌, List, ◌∷◌, Some, IsSome, ap, sym, ◌∙◌, subst, refl, ⊎_elim, inl, inr, arith}
use Rattle.atomic_table.specs.Table.{Me, rest}
use Rattle.sdd_plain.specs.declared.sizes.Sizes.{Sizes}
use Rattle.sdd_homes.specs.declared.Filling.{Filling}
use Rattle.sdd_homes.specs.Book.{home, part}
use Rattle.domain_table.specs.Contents.{IsIn}
use Rattle.domain_table.specs.Plays.{filling_at, next_out, next_filled, CanFill}
use Rattle.domain_table.specs.declared.board.Acting.{Acting}
use Rattle.domain_table.specs.declared.board.Home.{Home}
use Rattle.domain_table.specs.declared.board.Home.TheVariants.{Part}
use Rattle.domain_table.proofs.Fronts.{put_in}
use Rattle.domain_table.proofs.placing.fill_home.Goals as goal

-- the home of the next participant came out, and y was put into it
module _ {T : Type 0} (holds : T → List (ℕ × ℕ)) (d : Acting) (xs : List (ℕ × Home T)) (m1 m2 : Me (Home T) Acting) (f : Filling) (u r y : Home T) (i : ℕ)
    (is : m1 ≡ (filling_at d.slot (next_out f) d, (home d.sizes.slots d.slot f.filled, u) ∷ xs)) (front : m1.1 ≡ (i, r) ∷ rest m1.1) (new : m2 ≡ (m1.0, (i, y) ∷ rest m1.1)) where
  abbrev at : ℕ
  at = home d.sizes.slots d.slot f.filled

  filled : m2 ≡ (filling_at d.slot (next_out f) d, (at, y) ∷ xs)
  filled = put_in m1 m2 at i u r y xs (ap (λ t. t.1) is) front new ∙ ap (λ (t : Me (Home T) Acting). (t.0, (at, y) ∷ xs)) is

  can : (c a : ℕ) → f.filled < d.sizes.participants → a ≤ f.left → (f.filled ≡ 0) ⊎ (c ≡ f.round) → IsIn holds (part c a) y → CanFill (IsIn holds) m2 (next_out f) c a xs
  can c a lt le round is_in = subst (λ m. CanFill (IsIn holds) m (next_out f) c a xs) (sym filled) (refl, refl, lt, le, round, (y, is_in, refl))

  after : (m3 : Me (Home T) Acting) (c a : ℕ) → m3 ≡ (filling_at m2.0.slot (next_filled m2.0 c a (next_out f)) m2.0, xs) → m3 ≡ (filling_at d.slot (next_filled d c a f) d, xs)
  after m3 c a e = e ∙ ap (λ (m : Me (Home T) Acting). (filling_at m.0.slot (next_filled m.0 c a (next_out f)) m.0, xs)) filled

pub give_next-requires-clause-filling : goal.give_next-requires-clause-filling
give_next-requires-clause-filling g c = let m = c.args.seat.now.me in let q = c.requires.filling in let f = q.0 in let t = c.take_next.ensures.taken f q.1 in let e = c.exchange.ensures in let s = c.split-part.ensures in let p = c.split-part.result in
    let n : ℕ = c.args.count in let all = c.args.all.now in let y = Part p n in let low = q.2 in let less = q.3 in let left = q.5 in let wide = ap (λ (z : Sizes). z.participants) c.requires.table.3 in let few = c.requires.parts in let is_in : IsIn g.H.Holding.holds (part all.life.id n) y = (p, refl, ap (λ l. l.id) s.taken.1, ap (λ l. l.count) s.taken.1, few.0, subst (λ z. IsSome z.value) (sym s.taken.0) few.3) in
    let new = filled g.H.Holding.holds m.0 m.1 c.take_next.new.seat.me c.exchange.new.seat.me f t.0 c.exchange.result y c.home_of.result t.2 e.2 e.3 in (
      ap (λ (z : Me _ Acting). z.0.kind) new ∙ c.requires.table.2,
      (
        next_out f,
        all.life.id,
        n,
        m.1,
        can g.H.Holding.holds m.0 m.1 c.take_next.new.seat.me c.exchange.new.seat.me f t.0 c.exchange.result y c.home_of.result t.2 e.2 e.3 all.life.id n (omega arith) (let z = few.1 in omega arith)
            (⊎_elim (λ (z : c.args.at ≡ 0). inl (low ∙ z)) (λ z. inr z) q.6) is_in,
      ),
    )

pub returns-clause-filled : goal.returns-clause-filled
returns-clause-filled g c = λ f' is'. let m = c.args.seat.now.me in let q = c.requires.filling in let f = q.0 in let t = c.take_next.ensures.taken f q.1 in let e = c.exchange.ensures in let s = c.split-part.ensures in let p = c.split-part.result in
    let n : ℕ = c.args.count in let all = c.args.all.now in let y = Part p n in let low = q.2 in let less = q.3 in let left = q.5 in let wide = ap (λ (z : Sizes). z.participants) c.requires.table.3 in let few = c.requires.parts in let is_in : IsIn g.H.Holding.holds (part all.life.id n) y = (p, refl, ap (λ l. l.id) s.taken.1, ap (λ l. l.count) s.taken.1, few.0, subst (λ z. IsSome z.value) (sym s.taken.0) few.3) in
    let i : ℕ = c.home_of.result in let r = c.exchange.result in let m1 = c.take_next.new.seat.me in let m2 = c.exchange.new.seat.me in
    let heads : Some f ≡ Some f' = sym q.1 ∙ is' in let same : f ≡ f' = cc in
    let ready = can g.H.Holding.holds m.0 m.1 m1 m2 f t.0 r y i t.2 e.2 e.3 all.life.id n (omega arith) (let z = few.1 in omega arith) (⊎_elim (λ (z : c.args.at ≡ 0). inl (low ∙ z)) (λ z. inr z) q.6) is_in in
    after g.H.Holding.holds m.0 m.1 m1 m2 f t.0 r y i t.2 e.2 e.3 c.give_next.new.seat.me all.life.id n (c.give_next.ensures.given (next_out f) all.life.id n m.1 ready) ∙ ap (λ (z : ℕ × Filling). (filling_at z.0 (next_filled m.0 all.life.id n z.1) m.0, m.1)) (λ j. (c.requires.table.5 j, same j))
