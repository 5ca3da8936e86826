use Rattle.std.proofs.Common.{◌≡◌, ℕ, suc, ◌+◌, ◌<◌, List, [], ◌∷◌, ◌++◌, Option, None, Some, length, IsSome, ap, sym, ◌∙◌, subst, refl, arith}
use Rattle.atomic_table.specs.Table.{Me, rest}
use Rattle.sdd_plain.specs.declared.sizes.Sizes.{Sizes}
use Rattle.sdd_steps.specs.declared.participant.Participant.{Participant}
use Rattle.sdd_homes.specs.declared.Owner.{Owner}
use Rattle.sdd_homes.specs.declared.Lease.{Lease}
use Rattle.sdd_homes.specs.Book.{part, lease, Lends}
use Rattle.domain_table.specs.Contents.{IsIn}
use Rattle.domain_table.specs.Plays.{own_home, HasBegun, CanEnd, ended_release}
use Rattle.domain_table.specs.declared.board.Acting.{Acting}
use Rattle.domain_table.specs.declared.board.Home.{Home}
use Rattle.domain_table.specs.declared.board.Home.TheVariants.{Blank, Part}
use Rattle.domain_table.proofs.Bagging.{rebagged, gone, bags_stay, one_goes}
use Rattle.domain_table.proofs.Begun.{had, emptied}
use Rattle.domain_table.proofs.Fronts.{put_in}
use Rattle.domain_table.proofs.owners.release_home.Goals as goal

-- how many parts a lease has doesn't matter to bags
same_bags : (to : Option ℕ) (k n : ℕ) (o : Owner) (d : Acting) → rebagged to k (lease o.slot o.item n o.round) d ≡ rebagged to k (lease o.slot o.item 0 o.round) d
same_bags None k n o d = refl
same_bags (Some note) k n o d = refl

-- the participant's home came out, and its parts
module _ {T : Type 0} (holds : T → List (ℕ × ℕ)) (m0 m1 : Me (Home T) Acting) (o : Owner) (begun : HasBegun (IsIn holds) m0 o m1) (i : ℕ) (r : Home T) (front : m1.1 ≡ (i, r) ∷ rest m1.1) where
  abbrev n : ℕ
  n = begun.0

  abbrev at : ℕ
  at = own_home m0.0 o.slot

  abbrev l : Lease
  l = lease o.slot o.item n o.round

  abbrev begun' : Acting
  begun' = record m0.0 { leases = m0.0.leases ++ l ∷ []; releasing = suc o.item }

  -- they are back, and those of the owner with them
  module _ (m2 m3 : Me (Home T) Acting) (i' : ℕ) (r' b y : Home T) (first : m2 ≡ (m1.0, (i, b) ∷ rest m1.1)) (front' : m2.1 ≡ (i', r') ∷ rest m2.1) (second : m3 ≡ (m2.0, (i', y) ∷ rest m2.1)) where
    joined : m3 ≡ (begun', (at, y) ∷ m0.1)
    joined = put_in m2 m3 at i' b r' y m0.1 (ap (λ (t : Me (Home T) Acting). t.1) (emptied holds m0 m1 o begun i r front m2 b first)) front' second ∙ ap (λ (t : Me (Home T) Acting). (t.0, (at, y) ∷ m0.1)) (emptied holds m0 m1 o begun i r front m2 b first)

    can : (os : List Owner) → m0.0.hand ≡ o ∷ os → IsIn holds (part o.round (n + 1)) y → CanEnd (IsIn holds) m3 l m0.0.leases o os m0.1
    can os first is_in = subst (λ m. CanEnd (IsIn holds) m l m0.0.leases o os m0.1) (sym joined) (refl, first, refl, refl, (y, is_in, refl))

    after : (to : Participant → Option ℕ) (os : List Owner) (k : ℕ) (m4 : Me (Home T) Acting) → m0.0.releasing ≡ 0 → m4 ≡ (ended_release (to m3.0.known) k l m0.0.leases os m3.0, m0.1) → m4 ≡ (rebagged (to m0.0.known) k (lease o.slot o.item 0 o.round) (record m0.0 { hand = os }), m0.1)
    after to os k m4 idle e = e ∙ (ap (λ (t : Me (Home T) Acting). (ended_release (to t.0.known) k l m0.0.leases os t.0, m0.1)) joined ∙ ((λ j. (record (rebagged (to m0.0.known) k l (record m0.0 { hand = os })) { releasing = sym idle j }, m0.1)) ∙ λ j. (same_bags (to m0.0.known) k n o (record m0.0 { hand = os }) j, m0.1)))

pub begin_release-requires-clause-owner : goal.begin_release-requires-clause-owner
begin_release-requires-clause-owner g c = let q = c.requires.owner.0 in (q.0, q.1, q.2, (λ h. c.requires.free (subst (Lends c.args.seat.now.me.0.leases) q.3 h)))

pub parts_of-own-requires : goal.parts_of-own-requires
parts_of-own-requires g c = let q = c.requires.owner.0 in let b = c.begin_release.ensures.begun q.0 q.1 q.2 in let e = c.exchange.ensures in
    (q.0.round, b.0, had g.H.Holding.holds c.args.seat.now.me c.begin_release.new.seat.me q.0 b c.home_of-home.result c.exchange.result e.2)

pub join-requires : goal.join-requires
join-requires g c = let q = c.requires.owner.0 in let b = c.begin_release.ensures.begun q.0 q.1 q.2 in let e = c.exchange.ensures in let few = b.3 in
    let p = c.parts_of-own.ensures q.0.round b.0 (had g.H.Holding.holds c.args.seat.now.me c.begin_release.new.seat.me q.0 b c.home_of-home.result c.exchange.result e.2) in let many = p.1 in let some = p.3 in
    let mine = c.into_part.ensures in let one = mine.1 in (ap (λ z. z.life.id) mine.0 ∙ (sym q.4 ∙ sym p.0), omega arith, omega arith)

pub overflow_add-count : goal.overflow_add-count
overflow_add-count g c = let q = c.requires.owner.0 in let b = c.begin_release.ensures.begun q.0 q.1 q.2 in let e = c.exchange.ensures in let few = b.3 in
    let p = c.parts_of-own.ensures q.0.round b.0 (had g.H.Holding.holds c.args.seat.now.me c.begin_release.new.seat.me q.0 b c.home_of-home.result c.exchange.result e.2) in let many = p.2 in omega arith

pub end_release-requires-clause-begun : goal.end_release-requires-clause-begun
end_release-requires-clause-begun g c = let m = c.args.seat.now.me in let q = c.requires.owner.0 in let o = q.0 in let b = c.begin_release.ensures.begun o q.1 q.2 in let n : ℕ = b.0 in let i : ℕ = c.home_of-home.result in let e = c.exchange.ensures in let e' = c.exchange-2.ensures in
    let m1 = c.begin_release.new.seat.me in let m2 = c.exchange.new.seat.me in let m3 = c.exchange-2.new.seat.me in let r = c.exchange.result in let r' = c.exchange-2.result in let s = c.join.new.self in let told = c.join.ensures in let y = Part s (c.parts_of-own.result.1 + 1) in
    let p = c.parts_of-own.ensures o.round n (had g.H.Holding.holds m m1 o b i r e.2) in let many : c.parts_of-own.result.0.life.count ≡ n = p.1 in let one = c.into_part.ensures.1 in let sum = ap (λ z. z.count) told.life in
    let all : s.life.count ≡ n + 1 = omega arith in let is_in : IsIn g.H.Holding.holds (part o.round (n + 1)) y = (s, ap (λ z. Part s (z + 1)) p.2, ap (λ z. z.id) told.life ∙ p.0, all, omega arith, subst (λ z. IsSome z.value) (sym told.seen) p.4) in
    (lease o.slot o.item n o.round, m.0.leases, o, q.1, m.1, q.3, can g.H.Holding.holds m m1 o b i r e.2 m2 m3 i r' Blank y e.3 e'.2 e'.3 q.1 q.2 is_in)

pub returns-clause-released : goal.returns-clause-released
returns-clause-released g c = λ o' os' first'. let m = c.args.seat.now.me in let q = c.requires.owner.0 in let o = q.0 in let b = c.begin_release.ensures.begun o q.1 q.2 in let n : ℕ = b.0 in let i : ℕ = c.home_of-home.result in let e = c.exchange.ensures in let e' = c.exchange-2.ensures in
    let m1 = c.begin_release.new.seat.me in let m2 = c.exchange.new.seat.me in let m3 = c.exchange-2.new.seat.me in let r = c.exchange.result in let r' = c.exchange-2.result in let s = c.join.new.self in let told = c.join.ensures in let y = Part s (c.parts_of-own.result.1 + 1) in
    let p = c.parts_of-own.ensures o.round n (had g.H.Holding.holds m m1 o b i r e.2) in let many : c.parts_of-own.result.0.life.count ≡ n = p.1 in let one = c.into_part.ensures.1 in let sum = ap (λ z. z.count) told.life in
    let all : s.life.count ≡ n + 1 = omega arith in let is_in : IsIn g.H.Holding.holds (part o.round (n + 1)) y = (s, ap (λ z. Part s (z + 1)) p.2, ap (λ z. z.id) told.life ∙ p.0, all, omega arith, subst (λ z. IsSome z.value) (sym told.seen) p.4) in
    let lists : o ∷ q.1 ≡ o' ∷ os' = sym q.2 ∙ first' in let others : q.1 ≡ os' = cc in let k : ℕ = c.end_release.result + 3 in
    let now = after g.H.Holding.holds m m1 o b i r e.2 m2 m3 i r' Blank y e.3 e'.2 e'.3 g.A.Aim.to q.1 k c.end_release.new.seat.me c.requires.ready.3
    (c.end_release.ensures.ended (lease o.slot o.item n o.round) m.0.leases o q.1 m.1 (can g.H.Holding.holds m m1 o b i r e.2 m2 m3 i r' Blank y e.3 e'.2 e'.3 q.1 q.2 is_in)) in (
      (λ more. now ∙ λ j. (bags_stay (g.A.Aim.to m.0.known) c.end_release.result (lease o.slot o.item 0 o.round) (record m.0 { hand = others j }) more j, m.1)),
      (λ none. (gone (g.A.Aim.to m.0.known) (lease o.slot o.item 0 o.round), q.3, refl, now ∙ λ j. (one_goes (g.A.Aim.to m.0.known) c.end_release.result (lease o.slot o.item 0 o.round) (record m.0 { hand = others j }) none j, m.1))),
    )

pub returns-clause-low : goal.returns-clause-low
returns-clause-low g c = let q = c.requires.owner.0 in let b = c.begin_release.ensures.begun q.0 q.1 q.2 in let low = b.4 in let at = q.3 in let slots = ap (λ (z : Sizes). z.slots) c.requires.table.0.2 in omega arith

pub returns-clause-bag_room : goal.returns-clause-bag_room
returns-clause-bag_room g c = let m = c.args.seat.now.me in let q = c.requires.owner.0 in let o = q.0 in let b = c.begin_release.ensures.begun o q.1 q.2 in let i : ℕ = c.home_of-home.result in let e = c.exchange.ensures in let e' = c.exchange-2.ensures in
    let is = joined g.H.Holding.holds m c.begin_release.new.seat.me o b i c.exchange.result e.2 c.exchange.new.seat.me c.exchange-2.new.seat.me i c.exchange-2.result Blank _ e.3 e'.2 e'.3 in
    subst (λ (z : Sizes). length m.0.collected < z.slots) c.requires.table.0.2 (subst (λ (t : Me _ Acting). length t.0.collected < t.0.sizes.slots) is c.end_release.ensures.room.1)
