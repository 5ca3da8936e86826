use Rattle.std.proofs.Common.{◌≡◌, ℕ, ◌<◌, ◌≤◌, List, [], ◌∷◌, ◌++◌, map, length, slice_index_or, refl, sym, ap, ◌∙◌, subst, arith}
use Rattle.atomic_table.specs.Table.{Me, rest}
use Rattle.sdd_plain.specs.declared.sizes.Sizes.{Sizes}
use Rattle.sdd_steps.specs.State.{Has}
use Rattle.sdd_homes.specs.declared.Lease.{Lease}
use Rattle.sdd_homes.specs.Book.{home}
use Rattle.domain_table.specs.Contents.{IsIn}
use Rattle.domain_table.specs.Leases.{row_told, lease_told, row_slots, all_below}
use Rattle.domain_table.specs.Plays.{own_home, loading, HasLeasedAt}
use Rattle.domain_table.proofs.Rows.{row_at, slots_told, has_slot}
use Rattle.domain_table.specs.declared.board.Acting.{Acting}
use Rattle.domain_table.specs.declared.board.Home.{Home}
use Rattle.domain_table.specs.declared.row.Row.{Row}
use Rattle.domain_table.proofs.Leasing.{was_leased, is_new, new, had, front, behind, more_told, more_below, as_many}
use Rattle.domain_table.proofs.Noted.{again_noted}
use Rattle.domain_table.proofs.loading.note_slot.Goals as goal

-- the item is leased already
module _ {T : Type 0} (holds : T → List (ℕ × ℕ)) (life : ℕ) (rows : List (Row T)) (m m1 : Me (Home T) Acting) (slot at : ℕ) (told : map row_told rows ≡ map (lease_told life) m.0.leases)
    (f : HasLeasedAt (IsIn holds) m slot m1) (low : at < length rows) (is : (d : Row T) → (slice_index_or rows at d).slot ≡ slot) where
  again : m1 ≡ (loading f.0 m.0.leases m.0, m.1)
  again = let r = row_at life rows m.0.leases at told low in was_leased holds life rows m m1 slot f.0 told f.1 (subst (Has (row_slots rows)) (ap (λ (x : Row T). x.slot) (sym (r.is r.row)) ∙ is r.row) (subst (λ ks. Has ks r.row.slot) (sym (slots_told life rows m.0.leases told)) (subst (Has (map (λ (x : Lease). x.slot) m.0.leases)) (sym (ap (λ (t : ℕ × ℕ × ℕ × ℕ). t.0) r.told)) (has_slot m.0.leases r.lease r.has))))

pub returns-in-Some-clause-noted : goal.returns-in-Some-clause-noted
returns-in-Some-clause-noted g c = λ m loaded told. let m1 = c.args.seat.now.me in let rows = c.args.rows.now.items in let slot : ℕ = c.args.slot in let f = loaded in let r = c.in-Some.ensures.leased in let long = c.args.rows.now.ok.0 in let low = r.0 in
    again_noted m m1 f.0 (again g.H.Holding.holds c.args.life.now.id rows m m1 slot c.in-Some.at told f (omega arith) r.1)

pub returns-in-Some-clause-rows : goal.returns-in-Some-clause-rows
returns-in-Some-clause-rows g c = let q = c.requires.found in let m = q.0 in let m1 = c.args.seat.now.me in let slot : ℕ = c.args.slot in let f = q.1 in let rows = c.args.rows.now.items in let r = c.in-Some.ensures.leased in let long = c.args.rows.now.ok.0 in let low = r.0 in
    let e = again g.H.Holding.holds c.args.life.now.id rows m m1 slot c.in-Some.at q.4 f (omega arith) r.1 in (q.4 ∙ sym (ap (λ (z : Me _ Acting). map (lease_told c.args.life.now.id) z.0.leases) e), c.requires.rows.0, refl)

-- the participant's home of the item came out
pub exchange-requires : goal.exchange-requires
exchange-requires g c = let q = c.requires.found in let m = q.0 in let m1 = c.args.seat.now.me in let slot : ℕ = c.args.slot in let f = q.1 in
    let takes = is_new g.H.Holding.holds c.args.life.now.id c.args.rows.now.items m m1 slot f.0 q.4 f.1 c.in_default.ensures.free in let there = front g.H.Holding.holds m m1 slot f.0 takes in
    let at : own_home m.0 slot ≡ c.home_of-home.result = (λ j. home (q.3 j).slots slot (q.2 j)) ∙ sym c.home_of-home.ensures in
    (c.requires.table.0, (takes.3.1, there ∙ λ j. (at j, takes.3.1) ∷ rest (sym there j)))

pub parts_of-parts-requires : goal.parts_of-parts-requires
parts_of-parts-requires g c = let q = c.requires.found in let m = q.0 in let m1 = c.args.seat.now.me in let slot : ℕ = c.args.slot in let f = q.1 in
    let takes = is_new g.H.Holding.holds c.args.life.now.id c.args.rows.now.items m m1 slot f.0 q.4 f.1 c.in_default.ensures.free in (f.0.value, takes.3.0, had g.H.Holding.holds m m1 slot f.0 takes c.home_of-home.result c.exchange.result c.exchange.ensures.2)

pub new-requires-clause-parts : goal.new-requires-clause-parts
new-requires-clause-parts g c = let q = c.requires.found in let m = q.0 in let m1 = c.args.seat.now.me in let slot : ℕ = c.args.slot in let f = q.1 in
    let takes = is_new g.H.Holding.holds c.args.life.now.id c.args.rows.now.items m m1 slot f.0 q.4 f.1 c.in_default.ensures.free in let p = c.parts_of-parts.ensures f.0.value takes.3.0 (had g.H.Holding.holds m m1 slot f.0 takes c.home_of-home.result c.exchange.result c.exchange.ensures.2) in
    (p.1 ∙ sym p.2, subst (λ n. 0 < n) (sym p.2) p.3, subst (λ n. n ≤ 9223372036854775808) (sym p.2) takes.3.3, p.4)

pub push_back_reserved-requires : goal.push_back_reserved-requires
push_back_reserved-requires g c = let q = c.requires.found in let m = q.0 in let m1 = c.args.seat.now.me in let slot : ℕ = c.args.slot in let f = q.1 in
    let takes = is_new g.H.Holding.holds c.args.life.now.id c.args.rows.now.items m m1 slot f.0 q.4 f.1 c.in_default.ensures.free in let fewer = takes.2 in let many = as_many c.args.life.now.id c.args.rows.now.items m.0.leases q.4 in let room = c.requires.rows.1 in let sizes = ap (λ (z : Sizes). z.slots) q.3 in let long = c.args.rows.now.ok.0 in omega arith

pub returns-clause-view : goal.returns-clause-view
returns-clause-view g c = ap (λ (z : Me _ Acting). z.0) (c.turn.ensures.2) ∙ ap (λ (z : Me _ Acting). z.0) c.exchange.ensures.3

pub returns-clause-noted : goal.returns-clause-noted
returns-clause-noted g c = λ m loaded told. let m1 = c.args.seat.now.me in let slot : ℕ = c.args.slot in let f = loaded in
    let takes = is_new g.H.Holding.holds c.args.life.now.id c.args.rows.now.items m m1 slot f.0 told f.1 c.in_default.ensures.free in let e = c.exchange.ensures in
    (m.0.known.loaded ++ f.0 ∷ [], new g.H.Holding.holds m m1 slot f.0 takes ∷ [], behind g.H.Holding.holds m m1 slot f.0 takes c.home_of-home.result c.exchange.result c.exchange.new.seat.me c.turn.new.self.me e.2 e.3 c.turn.ensures.2)

pub returns-clause-rows : goal.returns-clause-rows
returns-clause-rows g c = let q = c.requires.found in let m = q.0 in let m1 = c.args.seat.now.me in let slot : ℕ = c.args.slot in let f = q.1 in let rows = c.args.rows.now.items in let life : ℕ = c.args.life.now.id in
    let takes = is_new g.H.Holding.holds c.args.life.now.id c.args.rows.now.items m m1 slot f.0 q.4 f.1 c.in_default.ensures.free in let e = c.exchange.ensures in let p = c.parts_of-parts.ensures f.0.value takes.3.0 (had g.H.Holding.holds m m1 slot f.0 takes c.home_of-home.result c.exchange.result e.2) in
    let all = behind g.H.Holding.holds m m1 slot f.0 takes c.home_of-home.result c.exchange.result c.exchange.new.seat.me c.turn.new.self.me e.2 e.3 c.turn.ensures.2 in let pushed = c.push_back_reserved.ensures.items in
    let one : row_told c.new.result ≡ lease_told life (new g.H.Holding.holds m m1 slot f.0 takes) = c.new.ensures ∙ λ j. (slot, p.0 j, p.2 j, life) in (
      ap (map row_told) pushed ∙ (more_told life rows m.0.leases c.new.result (new g.H.Holding.holds m m1 slot f.0 takes) q.4 one ∙ sym (ap (λ (z : Me _ Acting). map (lease_told life) z.0.leases) all)),
      ap (λ rs. all_below c.args.place.sizes.now.slots (row_slots rs)) pushed ∙ more_below c.args.place.sizes.now.slots rows c.new.result c.requires.rows.0 (subst (λ k. k < c.args.place.sizes.now.slots) (sym (ap (λ (t : ℕ × ℕ × ℕ × ℕ). t.0) one)) (subst (λ (z : Sizes). slot < z.slots) q.3 takes.1)),
      c.push_back_reserved.ensures.capacity,
    )
