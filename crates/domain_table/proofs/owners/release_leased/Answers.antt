use Rattle.std.proofs.Common.{◌≡◌, ◌<◌, ℕ, ◌+◌, length, ◌∷◌, map, slice_set, sym, refl, ap, ◌∙◌, subst, arith}
use Rattle.sdd_plain.specs.declared.sizes.Sizes.{Sizes}
use Rattle.sdd_homes.specs.declared.Owner.{Owner}
use Rattle.sdd_homes.specs.Book.{recounted}
use Rattle.domain_table.specs.Leases.{row_told, lease_told}
use Rattle.domain_table.specs.declared.board.Acting.{Acting}
use Rattle.domain_table.proofs.Bagging.{gone, bags_stay, one_goes}
use Rattle.domain_table.proofs.Rows.{row_at, at_slot, inside, slots_told, recounted_slots}
use Rattle.domain_table.proofs.owners.release_leased.Goals as goal

pub release_owner-left-requires-clause-table : goal.release_owner-left-requires-clause-table
release_owner-left-requires-clause-table g c = let t = c.requires.table in let r = c.requires.rows in let rows = c.args.rows.now.items in let ls = c.args.seat.now.me.0.leases in let low = c.requires.row.0 in let long = c.args.rows.now.ok.0 in let f = row_at r.0.0 rows ls c.args.at r.0.1 (omega arith) in
    let below = inside r.0.0 rows ls c.args.at c.args.slot f c.requires.row.1 r.0.1 c.args.place.sizes.now.slots r.1 in (t.0, t.1, t.3, below, t.4)

pub release_owner-left-requires-clause-owner : goal.release_owner-left-requires-clause-owner
release_owner-left-requires-clause-owner g c = let r = c.requires.rows in let rows = c.args.rows.now.items in let ls = c.args.seat.now.me.0.leases in let low = c.requires.row.0 in let long = c.args.rows.now.ok.0 in let f = row_at r.0.0 rows ls c.args.at r.0.1 (omega arith) in
    let at = at_slot r.0.0 rows ls c.args.at c.args.slot f c.requires.row.1 in let q = c.requires.owner.0 in (f.lease, q.0, q.1, f.has, at, q.3 ∙ sym at, q.2)

pub take_in-requires : goal.take_in-requires
take_in-requires g c = let r = c.requires.rows in let rows = c.args.rows.now.items in let ls = c.args.seat.now.me.0.leases in let low = c.requires.row.0 in let long = c.args.rows.now.ok.0 in let f = row_at r.0.0 rows ls c.args.at r.0.1 (omega arith) in
    let at = at_slot r.0.0 rows ls c.args.at c.args.slot f c.requires.row.1 in let q = c.requires.owner.0 in let few = c.release_owner-left.ensures.few f.lease q.0 q.1 f.has (q.3 ∙ sym at) q.2 in
    let row : c.in-Some.row.now ≡ f.row = c.in-Some.ensures.value ∙ f.is c.in-Some.row.now in let told = ap row_told row ∙ f.told in
    (sym q.4 ∙ (few.3 ∙ sym (ap (λ (t : ℕ × ℕ × ℕ × ℕ). t.1) told)), subst (λ n. n < 9223372036854775808) (sym (ap (λ (t : ℕ × ℕ × ℕ × ℕ). t.2) told)) few.0, c.requires.owner.1)

pub returns-clause-low : goal.returns-clause-low
returns-clause-low g c = let r = c.requires.rows in let rows = c.args.rows.now.items in let ls = c.args.seat.now.me.0.leases in let low = c.requires.row.0 in let long = c.args.rows.now.ok.0 in let f = row_at r.0.0 rows ls c.args.at r.0.1 (omega arith) in
    let below = inside r.0.0 rows ls c.args.at c.args.slot f c.requires.row.1 r.0.1 c.args.place.sizes.now.slots r.1 in omega arith

pub returns-clause-bag_room : goal.returns-clause-bag_room
returns-clause-bag_room g c = let r = c.requires.rows in let rows = c.args.rows.now.items in let ls = c.args.seat.now.me.0.leases in let low = c.requires.row.0 in let long = c.args.rows.now.ok.0 in let f = row_at r.0.0 rows ls c.args.at r.0.1 (omega arith) in
    let at = at_slot r.0.0 rows ls c.args.at c.args.slot f c.requires.row.1 in let q = c.requires.owner.0 in let few = c.release_owner-left.ensures.few f.lease q.0 q.1 f.has (q.3 ∙ sym at) q.2 in
    subst (λ (z : Sizes). length c.args.seat.now.me.0.collected < z.slots) c.requires.table.2 few.1.1

pub returns-clause-released : goal.returns-clause-released
returns-clause-released g c = let r = c.requires.rows in let m = c.args.seat.now.me in let rows = c.args.rows.now.items in let ls = m.0.leases in let low = c.requires.row.0 in let long = c.args.rows.now.ok.0 in let f = row_at r.0.0 rows ls c.args.at r.0.1 (omega arith) in
    let l = f.lease in let at = at_slot r.0.0 rows ls c.args.at c.args.slot f c.requires.row.1 in let q = c.requires.owner.0 in let n : ℕ = c.release_owner-left.result in
    let new = recounted l.slot (l.count + 1) ls in (
      new,
      recounted_slots l.slot (l.count + 1) ls,
      (λ o os first. let lists : q.0 ∷ q.1 ≡ o ∷ os = sym q.2 ∙ first in let same : q.0 ≡ o = cc in let now = c.release_owner-left.ensures.released l o os f.has (ap (λ (z : Owner). z.slot) (sym same) ∙ (q.3 ∙ sym at)) first in (
        (λ more. now ∙ λ j. (bags_stay (g.A.Aim.to m.0.known) n l (record m.0 { hand = os; leases = new }) more j, m.1)),
        (λ none. (gone (g.A.Aim.to m.0.known) l, at, refl, now ∙ λ j. (one_goes (g.A.Aim.to m.0.known) n l (record m.0 { hand = os; leases = new }) none j, m.1))),
      )),
    )

pub returns-clause-rows : goal.returns-clause-rows
returns-clause-rows g c = λ life told. let m = c.args.seat.now.me in let rows = c.args.rows.now.items in let ls = m.0.leases in let low = c.requires.row.0 in let long = c.args.rows.now.ok.0 in let f = row_at life rows ls c.args.at told (omega arith) in
    let l = f.lease in let at = at_slot life rows ls c.args.at c.args.slot f c.requires.row.1 in let q = c.requires.owner.0 in let slot = q.3 ∙ sym at in let few = c.release_owner-left.ensures.few l q.0 q.1 f.has slot q.2 in
    let row : row_told c.in-Some.row.now ≡ lease_told life l = ap row_told (c.in-Some.ensures.value ∙ f.is c.in-Some.row.now) ∙ f.told in let now = c.release_owner-left.ensures.released l q.0 q.1 f.has slot q.2 in
    let new : row_told c.take_in.new.self ≡ (l.slot, l.round, l.count + 1, life) = c.take_in.ensures ∙ λ j. ((row j).0, (row j).1, (row j).2 + 1, (row j).3) in
    f.recounts l.slot (l.count + 1) c.take_in.new.self refl few.2 new ∙ sym (ap (λ (z : Rattle.atomic_table.specs.Table.Me _ Acting). map (lease_told life) z.0.leases) now)

pub returns-clause-same : goal.returns-clause-same
returns-clause-same g c = let r = c.requires.rows in let m = c.args.seat.now.me in let rows = c.args.rows.now.items in let ls = m.0.leases in let low = c.requires.row.0 in let long = c.args.rows.now.ok.0 in let f = row_at r.0.0 rows ls c.args.at r.0.1 (omega arith) in
    let l = f.lease in let at = at_slot r.0.0 rows ls c.args.at c.args.slot f c.requires.row.1 in let q = c.requires.owner.0 in let few = c.release_owner-left.ensures.few l q.0 q.1 f.has (q.3 ∙ sym at) q.2 in
    let row : row_told c.in-Some.row.now ≡ lease_told r.0.0 l = ap row_told (c.in-Some.ensures.value ∙ f.is c.in-Some.row.now) ∙ f.told in
    let new : row_told c.take_in.new.self ≡ (l.slot, l.round, l.count + 1, r.0.0) = c.take_in.ensures ∙ λ j. ((row j).0, (row j).1, (row j).2 + 1, (row j).3) in
    let told = f.recounts l.slot (l.count + 1) c.take_in.new.self refl few.2 new in
    (refl, slots_told r.0.0 (slice_set rows c.args.at c.take_in.new.self) (recounted l.slot (l.count + 1) ls) told ∙ (recounted_slots l.slot (l.count + 1) ls ∙ sym (slots_told r.0.0 rows ls r.0.1)))
