use Rattle.std.proofs.Common.{◌≡◌, ℕ, ◌-◌, ◌<◌, ◌∷◌, IsSome, ap, sym, refl, ◌∙◌, subst, arith}
use Rattle.atomic_table.specs.Table.{Me}
use Rattle.sdd_plain.specs.declared.sizes.Sizes.{Sizes}
use Rattle.sdd_homes.specs.declared.Owner.{Owner}
use Rattle.sdd_homes.specs.Book.{lease, Lends, part}
use Rattle.domain_table.specs.Contents.{IsIn}
use Rattle.domain_table.specs.declared.board.Acting.{Acting}
use Rattle.domain_table.specs.declared.board.Home.TheVariants.{Part}
use Rattle.domain_table.proofs.Begun as begun
use Rattle.domain_table.proofs.owners.clone_home.Goals as goal

pub parts_of-own-requires : goal.parts_of-own-requires
parts_of-own-requires g c = let q = c.requires.owner in let b = c.begin_release.ensures.begun q.0 q.1 q.2 in let i : ℕ = c.home_of-home.result in
    (q.0.round, b.0, begun.had g.H.Holding.holds c.args.seat.now.me c.begin_release.new.seat.me q.0 b i c.exchange.result c.exchange.ensures.2)

pub raise_owners-requires-clause-table : goal.raise_owners-requires-clause-table
raise_owners-requires-clause-table g c = let m = c.args.seat.now.me in let m1 = c.begin_release.new.seat.me in let r = c.exchange.result in let q = c.requires.owner in let o = q.0 in let b = c.begin_release.ensures.begun o q.1 q.2 in let e = c.exchange.ensures in let i : ℕ = c.home_of-home.result in
    let t = c.requires.table.0 in let is = begun.emptied g.H.Holding.holds m m1 o b i r e.2 c.exchange.new.seat.me _ e.3 in
    ((e.0 ∙ (c.begin_release.ensures.seat.0 ∙ t.0), t.1, ap (λ (z : Me _ Acting). z.0.sizes) is ∙ t.2, t.3, t.4), subst (λ k. k < c.args.place.sizes.now.slots) q.3 (subst (λ (z : Sizes). o.slot < z.slots) t.2 b.4))

pub raise_owners-requires-clause-leased : goal.raise_owners-requires-clause-leased
raise_owners-requires-clause-leased g c = let m = c.args.seat.now.me in let m1 = c.begin_release.new.seat.me in let r = c.exchange.result in let q = c.requires.owner in let o = q.0 in let b = c.begin_release.ensures.begun o q.1 q.2 in let e = c.exchange.ensures in let i : ℕ = c.home_of-home.result in
    let p = c.parts_of-own.ensures o.round b.0 (begun.had g.H.Holding.holds m m1 o b i r e.2) in
    (lease o.slot o.item b.0 o.round, begun.has_lease g.H.Holding.holds m m1 o b i r e.2 c.exchange.new.seat.me e.3, q.3, sym p.2)

pub split_one-one-requires : goal.split_one-one-requires
split_one-one-requires g c = let m = c.args.seat.now.me in let m1 = c.begin_release.new.seat.me in let r = c.exchange.result in let q = c.requires.owner in let o = q.0 in let b = c.begin_release.ensures.begun o q.1 q.2 in let e = c.exchange.ensures in let i : ℕ = c.home_of-home.result in
    let p = c.parts_of-own.ensures o.round b.0 (begun.had g.H.Holding.holds m m1 o b i r e.2) in let few = b.3 in let held = p.1 in let told = p.2 in let many = c.raise_owners.ensures.many c.if-raise_owners.true in (omega arith, omega arith)

-- the part for the new owner is out, and the others are to go back
pub put_back-requires-clause-table : goal.put_back-requires-clause-table
put_back-requires-clause-table g c = let m = c.args.seat.now.me in let m1 = c.begin_release.new.seat.me in let r = c.exchange.result in let q = c.requires.owner in let o = q.0 in let b = c.begin_release.ensures.begun o q.1 q.2 in let e = c.exchange.ensures in let i : ℕ = c.home_of-home.result in
    let m2 = c.exchange.new.seat.me in let m3 = c.raise_owners.new.seat.me in let l = lease o.slot o.item b.0 o.round in
    let now = begun.one_more g.H.Holding.holds m m1 o b i r e.2 m2 m3 e.3 (c.raise_owners.ensures.raised c.if-raise_owners.true l (begun.has_lease g.H.Holding.holds m m1 o b i r e.2 m2 e.3) q.3) (λ h. c.requires.free (subst (Lends m.0.leases) q.3 h)) in
    let room = c.requires.table.0.4 in (c.raise_owners.ensures.seat.0 ∙ (e.0 ∙ (c.begin_release.ensures.seat.0 ∙ c.requires.table.0.0)), omega arith, ap (λ (z : Me _ Acting). z.0.kind) now ∙ c.requires.ready.0)

pub put_back-requires-clause-out : goal.put_back-requires-clause-out
put_back-requires-clause-out g c = let m = c.args.seat.now.me in let m1 = c.begin_release.new.seat.me in let r = c.exchange.result in let q = c.requires.owner in let o = q.0 in let b = c.begin_release.ensures.begun o q.1 q.2 in let e = c.exchange.ensures in let i : ℕ = c.home_of-home.result in
    let n : ℕ = b.0 in let m2 = c.exchange.new.seat.me in let m3 = c.raise_owners.new.seat.me in let l = lease o.slot o.item n o.round in
    let now = begun.one_more g.H.Holding.holds m m1 o b i r e.2 m2 m3 e.3 (c.raise_owners.ensures.raised c.if-raise_owners.true l (begun.has_lease g.H.Holding.holds m m1 o b i r e.2 m2 e.3) q.3) (λ h. c.requires.free (subst (Lends m.0.leases) q.3 h)) in
    let p = c.parts_of-own.ensures o.round n (begun.had g.H.Holding.holds m m1 o b i r e.2) in let many = c.raise_owners.ensures.many c.if-raise_owners.true in let told = p.2 in let rest = c.split_one-one.ensures.rest in let own = c.split_one-one.new.self in
    let is_in : IsIn g.H.Holding.holds (part o.round (n - 1)) (Part own (c.parts_of-own.result.1 - 1)) = (own, ap (λ z. Part own (z - 1)) p.2, ap (λ z. z.id) rest.1 ∙ p.0, ap (λ z. z.count) rest.1 ∙ ap (λ z. z - 1) p.1, omega arith, subst (λ z. IsSome z.value) (sym rest.0) p.4) in
    (lease o.slot o.item (n - 1) o.round, m.0.leases, m.1, begun.can_return g.H.Holding.holds m m1 o b i r e.2 (n - 1) (o ∷ m.0.hand) m3 now, is_in)

pub returns-then-raise_owners-clause-cloned : goal.returns-then-raise_owners-clause-cloned
returns-then-raise_owners-clause-cloned g c = (
  c.args.seat.now.me.0.leases,
  refl,
  λ o' os' first'. let m = c.args.seat.now.me in let m1 = c.begin_release.new.seat.me in let r = c.exchange.result in let q = c.requires.owner in let o = q.0 in let b = c.begin_release.ensures.begun o q.1 q.2 in let e = c.exchange.ensures in let i : ℕ = c.home_of-home.result in
      let n : ℕ = b.0 in let m2 = c.exchange.new.seat.me in let m3 = c.raise_owners.new.seat.me in let l = lease o.slot o.item n o.round in
      let now = begun.one_more g.H.Holding.holds m m1 o b i r e.2 m2 m3 e.3 (c.raise_owners.ensures.raised c.if-raise_owners.true l (begun.has_lease g.H.Holding.holds m m1 o b i r e.2 m2 e.3) q.3) (λ h. c.requires.free (subst (Lends m.0.leases) q.3 h)) in
      let p = c.parts_of-own.ensures o.round n (begun.had g.H.Holding.holds m m1 o b i r e.2) in let many = c.raise_owners.ensures.many c.if-raise_owners.true in let told = p.2 in let rest = c.split_one-one.ensures.rest in let taken = c.split_one-one.ensures.taken in let own = c.split_one-one.new.self in
      let is_in : IsIn g.H.Holding.holds (part o.round (n - 1)) (Part own (c.parts_of-own.result.1 - 1)) = (own, ap (λ z. Part own (z - 1)) p.2, ap (λ z. z.id) rest.1 ∙ p.0, ap (λ z. z.count) rest.1 ∙ ap (λ z. z - 1) p.1, omega arith, subst (λ z. IsSome z.value) (sym rest.0) p.4) in
      let kept = c.put_back.ensures.kept (lease o.slot o.item (n - 1) o.round) m.0.leases m.1 (begun.can_return g.H.Holding.holds m m1 o b i r e.2 (n - 1) (o ∷ m.0.hand) m3 now) is_in in
      let lists : o ∷ q.1 ≡ o' ∷ os' = sym q.2 ∙ first' in let same : o ≡ o' = cc in (
        ap (λ (z : Owner). z.round) (sym same) ∙ (sym p.0 ∙ (ap (λ z. z.id) (sym taken.1) ∙ ap (λ z. z.life.id) (sym c.from_part.ensures))),
        begun.returned g.H.Holding.holds m m1 o b i r e.2 (n - 1) (o ∷ m.0.hand) m3 now c.put_back.new.seat.me c.requires.ready.3 kept ∙ λ j. (record m.0 { hand = same j ∷ first' j }, m.1),
      ),
)

pub returns-then-raise_owners-clause-leases : goal.returns-then-raise_owners-clause-leases
returns-then-raise_owners-clause-leases g c = let m = c.args.seat.now.me in let m1 = c.begin_release.new.seat.me in let r = c.exchange.result in let q = c.requires.owner in let o = q.0 in let b = c.begin_release.ensures.begun o q.1 q.2 in let e = c.exchange.ensures in let i : ℕ = c.home_of-home.result in
    let n : ℕ = b.0 in let m2 = c.exchange.new.seat.me in let m3 = c.raise_owners.new.seat.me in let l = lease o.slot o.item n o.round in
    let now = begun.one_more g.H.Holding.holds m m1 o b i r e.2 m2 m3 e.3 (c.raise_owners.ensures.raised c.if-raise_owners.true l (begun.has_lease g.H.Holding.holds m m1 o b i r e.2 m2 e.3) q.3) (λ h. c.requires.free (subst (Lends m.0.leases) q.3 h)) in
    let p = c.parts_of-own.ensures o.round n (begun.had g.H.Holding.holds m m1 o b i r e.2) in let many = c.raise_owners.ensures.many c.if-raise_owners.true in let told = p.2 in let rest = c.split_one-one.ensures.rest in let own = c.split_one-one.new.self in
    let is_in : IsIn g.H.Holding.holds (part o.round (n - 1)) (Part own (c.parts_of-own.result.1 - 1)) = (own, ap (λ z. Part own (z - 1)) p.2, ap (λ z. z.id) rest.1 ∙ p.0, ap (λ z. z.count) rest.1 ∙ ap (λ z. z - 1) p.1, omega arith, subst (λ z. IsSome z.value) (sym rest.0) p.4) in
    let kept = c.put_back.ensures.kept (lease o.slot o.item (n - 1) o.round) m.0.leases m.1 (begun.can_return g.H.Holding.holds m m1 o b i r e.2 (n - 1) (o ∷ m.0.hand) m3 now) is_in in
    ap (λ (z : Me _ Acting). z.0.leases) (begun.returned g.H.Holding.holds m m1 o b i r e.2 (n - 1) (o ∷ m.0.hand) m3 now c.put_back.new.seat.me c.requires.ready.3 kept)

-- all parts are to go back
pub put_back-requires-2-clause-out : goal.put_back-requires-2-clause-out
put_back-requires-2-clause-out g c = let m = c.args.seat.now.me in let m1 = c.begin_release.new.seat.me in let r = c.exchange.result in let q = c.requires.owner in let o = q.0 in let b = c.begin_release.ensures.begun o q.1 q.2 in let e = c.exchange.ensures in let i : ℕ = c.home_of-home.result in
    let n : ℕ = b.0 in let m3 = c.raise_owners.new.seat.me in let now = begun.no_more g.H.Holding.holds m m1 o b i r e.2 c.exchange.new.seat.me m3 e.3 (c.raise_owners.ensures.refused c.if-raise_owners.false) in
    let p = c.parts_of-own.ensures o.round n (begun.had g.H.Holding.holds m m1 o b i r e.2) in let own = c.parts_of-own.result.0 in
    (lease o.slot o.item n o.round, m.0.leases, m.1, begun.can_return g.H.Holding.holds m m1 o b i r e.2 n m.0.hand m3 now, (own, ap (Part own) p.2, p.0, p.1, p.3, p.4))

pub returns-clause-refused : goal.returns-clause-refused
returns-clause-refused g c = let m = c.args.seat.now.me in let m1 = c.begin_release.new.seat.me in let r = c.exchange.result in let q = c.requires.owner in let o = q.0 in let b = c.begin_release.ensures.begun o q.1 q.2 in let e = c.exchange.ensures in let i : ℕ = c.home_of-home.result in
    let n : ℕ = b.0 in let m3 = c.raise_owners.new.seat.me in let now = begun.no_more g.H.Holding.holds m m1 o b i r e.2 c.exchange.new.seat.me m3 e.3 (c.raise_owners.ensures.refused c.if-raise_owners.false) in
    let p = c.parts_of-own.ensures o.round n (begun.had g.H.Holding.holds m m1 o b i r e.2) in let own = c.parts_of-own.result.0 in
    begun.returned g.H.Holding.holds m m1 o b i r e.2 n m.0.hand m3 now c.put_back-2.new.seat.me c.requires.ready.3
    (c.put_back-2.ensures.kept (lease o.slot o.item n o.round) m.0.leases m.1 (begun.can_return g.H.Holding.holds m m1 o b i r e.2 n m.0.hand m3 now) (own, ap (Part own) p.2, p.0, p.1, p.3, p.4))

pub returns-clause-leases : goal.returns-clause-leases
returns-clause-leases g c = let m = c.args.seat.now.me in let m1 = c.begin_release.new.seat.me in let r = c.exchange.result in let q = c.requires.owner in let o = q.0 in let b = c.begin_release.ensures.begun o q.1 q.2 in let e = c.exchange.ensures in let i : ℕ = c.home_of-home.result in
    let n : ℕ = b.0 in let m3 = c.raise_owners.new.seat.me in let now = begun.no_more g.H.Holding.holds m m1 o b i r e.2 c.exchange.new.seat.me m3 e.3 (c.raise_owners.ensures.refused c.if-raise_owners.false) in
    let p = c.parts_of-own.ensures o.round n (begun.had g.H.Holding.holds m m1 o b i r e.2) in let own = c.parts_of-own.result.0 in
    ap (λ (z : Me _ Acting). z.0.leases) (begun.returned g.H.Holding.holds m m1 o b i r e.2 n m.0.hand m3 now c.put_back-2.new.seat.me c.requires.ready.3
    (c.put_back-2.ensures.kept (lease o.slot o.item n o.round) m.0.leases m.1 (begun.can_return g.H.Holding.holds m m1 o b i r e.2 n m.0.hand m3 now) (own, ap (Part own) p.2, p.0, p.1, p.3, p.4)))
