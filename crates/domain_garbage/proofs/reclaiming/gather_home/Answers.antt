use Rattle.std.proofs.Common.{◌≡◌, ℕ, ◌+◌, ◌-◌, ◌^◌, ◌<◌, ◌≤◌, List, ◌∷◌, Some, ap, sym, ◌∙◌, subst, refl, arith}
use Rattle.atomic_table.specs.Table.{Me, rest}
use Rattle.sdd_plain.specs.declared.sizes.Sizes.{Sizes}
use Rattle.sdd_homes.specs.declared.Filling.{Filling}
use Rattle.sdd_homes.specs.Book.{home, part}
use Rattle.domain_table.specs.Contents.{IsIn}
use Rattle.domain_table.specs.Plays.{filling_at, gathered, emptying, CanEmpty}
use Rattle.domain_table.specs.declared.board.Acting.{Acting}
use Rattle.domain_table.specs.declared.board.Home.{Home}
use Rattle.domain_table.specs.declared.board.Home.TheVariants.{Blank}
use Rattle.domain_table.proofs.Fronts.{came_out, put_in}
use Rattle.domain_garbage.proofs.reclaiming.gather_home.Goals as goal

-- the last home that has parts came out, a of them, and is empty now
module _ {T : Type 0} (holds : T → List (ℕ × ℕ)) (d : Acting) (xs : List (ℕ × Home T)) (m1 m2 : Me (Home T) Acting) (f : Filling) (a : ℕ) (u r : Home T) (i : ℕ)
    (is : m1 ≡ (filling_at d.slot (gathered a f) d, (home d.sizes.slots d.slot (f.filled - 1), u) ∷ xs)) (front : m1.1 ≡ (i, r) ∷ rest m1.1) (new : m2 ≡ (m1.0, (i, Blank) ∷ rest m1.1)) where
  abbrev at : ℕ
  at = home d.sizes.slots d.slot (f.filled - 1)

  had : (c : ℕ) → IsIn holds (part c a) u → IsIn holds (part c a) r
  had c is_in = subst (IsIn holds (part c a)) (sym (came_out m1 at i u r xs (ap (λ t. t.1) is) front)) is_in

  emptied : m2 ≡ (filling_at d.slot (gathered a f) d, (at, Blank) ∷ xs)
  emptied = put_in m1 m2 at i u r Blank xs (ap (λ t. t.1) is) front new ∙ ap (λ (t : Me (Home T) Acting). (t.0, (at, Blank) ∷ xs)) is

  can : f.filled - 1 < d.sizes.participants → CanEmpty (IsIn holds) m2 (gathered a f) xs
  can lt = subst (λ m. CanEmpty (IsIn holds) m (gathered a f) xs) (sym emptied) (refl, refl, lt, (Blank, refl, refl))

  after : (q k : ℕ) (m3 : Me (Home T) Acting) → f.filled ≡ q + 1 → f.out ≡ d.sizes.participants → d.slot ≡ k → m3 ≡ (filling_at m2.0.slot (record (gathered a f) { out = m2.0.sizes.participants }) m2.0, xs) → m3 ≡ (filling_at k (emptying q a f) d, xs)
  after q k m3 last out here e = let low : f.filled - 1 ≡ q = omega arith in e ∙ (ap (λ (m : Me (Home T) Acting). (filling_at m.0.slot (record (gathered a f) { out = m.0.sizes.participants }) m.0, xs)) emptied
      ∙ λ j. (filling_at (here j) (record f { filled = low j; left = f.left + a; out = sym out j }) d, xs))

pub parts_of-part-requires : goal.parts_of-part-requires
parts_of-part-requires g c = let m = c.args.seat.now.me in let q = c.requires.filled in let f = q.0 in let t = c.gather.ensures.taken f q.1 in let e = c.exchange.ensures in
    (f.round, t.0, had g.H.Holding.holds m.0 m.1 c.gather.new.seat.me c.exchange.new.seat.me f t.0 t.1 c.exchange.result c.home_of-home.result t.5 e.2 e.3 f.round t.2)

pub empty-requires-clause-emptied : goal.empty-requires-clause-emptied
empty-requires-clause-emptied g c = let m = c.args.seat.now.me in let q = c.requires.filled in let f = q.0 in let t = c.gather.ensures.taken f q.1 in let e = c.exchange.ensures in let r = c.exchange.result in let i : ℕ = c.home_of-home.result in let m1 = c.gather.new.seat.me in let m2 = c.exchange.new.seat.me in
    let wide = ap (λ (z : Sizes). z.participants) c.requires.table.3 in let last = q.2 in let less = q.3 in
    (ap (λ (z : Me _ Acting). z.0.kind) (emptied g.H.Holding.holds m.0 m.1 m1 m2 f t.0 t.1 r i t.5 e.2 e.3) ∙ c.requires.table.2, (gathered t.0 f, m.1, can g.H.Holding.holds m.0 m.1 m1 m2 f t.0 t.1 r i t.5 e.2 e.3 (omega arith)))

pub returns-clause-gathered : goal.returns-clause-gathered
returns-clause-gathered g c = λ f' is'. let m = c.args.seat.now.me in let q = c.requires.filled in let f = q.0 in let t = c.gather.ensures.taken f q.1 in let e = c.exchange.ensures in let r = c.exchange.result in let i : ℕ = c.home_of-home.result in let m1 = c.gather.new.seat.me in let m2 = c.exchange.new.seat.me in
    let wide = ap (λ (z : Sizes). z.participants) c.requires.table.3 in let last = q.2 in let less = q.3 in let heads : Some f ≡ Some f' = sym q.1 ∙ is' in let same : f ≡ f' = cc in
    let p = c.parts_of-part.ensures f.round t.0 (had g.H.Holding.holds m.0 m.1 m1 m2 f t.0 t.1 r i t.5 e.2 e.3 f.round t.2) in let many = p.1 in let most = t.3 in let whole = t.4 in
    let n : ℕ = c.parts_of-part.result.0.life.count in subst (λ (z : Filling). (c.parts_of-part.result.0.life.id ≡ z.round) × (z.left + n ≤ 2 ^ 63) × (c.args.at ≡ 0 → z.left + n ≡ 2 ^ 63) × (c.empty.new.seat.me ≡ (filling_at c.args.slot (emptying c.args.at n z) m.0, m.1))) same (
      p.0,
      omega arith,
      (λ none. let all = whole (omega arith) in omega arith),
      after g.H.Holding.holds m.0 m.1 m1 m2 f t.0 t.1 r i t.5 e.2 e.3 c.args.at c.args.slot c.empty.new.seat.me q.2 (q.4 ∙ sym wide) c.requires.table.5 (c.empty.ensures.given (gathered t.0 f) m.1 (can g.H.Holding.holds m.0 m.1 m1 m2 f t.0 t.1 r i t.5 e.2 e.3 (omega arith)))
          ∙ ap (λ z. (filling_at c.args.slot (emptying c.args.at z f) m.0, m.1)) (sym many),
    )

pub returns-clause-some : goal.returns-clause-some
returns-clause-some g c = let m = c.args.seat.now.me in let q = c.requires.filled in let f = q.0 in let t = c.gather.ensures.taken f q.1 in let e = c.exchange.ensures in
    let p = c.parts_of-part.ensures f.round t.0 (had g.H.Holding.holds m.0 m.1 c.gather.new.seat.me c.exchange.new.seat.me f t.0 t.1 c.exchange.result c.home_of-home.result t.5 e.2 e.3 f.round t.2) in let many = p.1 in let some = p.3 in (omega arith, p.4)
