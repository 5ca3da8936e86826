use Rattle.std.proofs.Common.{◌≡◌, ℕ, ◌-◌, map, slice_set, sym, refl, ap, ◌∙◌, arith}
use Rattle.atomic_table.specs.Table.{Me}
use Rattle.sdd_homes.specs.Book.{recounted}
use Rattle.domain_table.specs.Leases.{row_told, lease_told}
use Rattle.domain_table.specs.Plays.{owner_of}
use Rattle.domain_table.specs.declared.board.Acting.{Acting}
use Rattle.domain_table.proofs.Rows.{row_at, at_slot, inside, slots_told, recounted_slots}
use Rattle.domain_table.proofs.owners.own_at.Goals as goal

pub raise_owners-requires-clause-table : goal.raise_owners-requires-clause-table
raise_owners-requires-clause-table g c = let r = c.requires.rows in let rows = c.args.rows.now.items in let ls = c.args.seat.now.me.0.leases in let low = c.requires.row.0 in let long = c.args.rows.now.ok.0 in let f = row_at r.0.0 rows ls c.args.at r.0.1 (omega arith) in
    (c.requires.table, inside r.0.0 rows ls c.args.at c.args.slot f c.requires.row.1 r.0.1 c.args.place.sizes.now.slots r.1)

pub raise_owners-requires-clause-leased : goal.raise_owners-requires-clause-leased
raise_owners-requires-clause-leased g c = let r = c.requires.rows in let rows = c.args.rows.now.items in let ls = c.args.seat.now.me.0.leases in let low = c.requires.row.0 in let long = c.args.rows.now.ok.0 in let f = row_at r.0.0 rows ls c.args.at r.0.1 (omega arith) in
    let row : row_told c.index.result.now ≡ lease_told r.0.0 f.lease = ap row_told (c.index.ensures ∙ f.is c.index.result.now) ∙ f.told in
    (f.lease, f.has, at_slot r.0.0 rows ls c.args.at c.args.slot f c.requires.row.1, ap (λ (t : ℕ × ℕ × ℕ × ℕ). t.2) (sym row))

pub returns-clause-owned : goal.returns-clause-owned
returns-clause-owned g c = let r = c.requires.rows in let m = c.args.seat.now.me in let rows = c.args.rows.now.items in let ls = m.0.leases in let low = c.requires.row.0 in let long = c.args.rows.now.ok.0 in let f = row_at r.0.0 rows ls c.args.at r.0.1 (omega arith) in
    let l = f.lease in let at = at_slot r.0.0 rows ls c.args.at c.args.slot f c.requires.row.1 in let hit = c.if-not-raise_owners.false in
    let row : row_told c.in-Some.row.now ≡ lease_told r.0.0 l = ap row_told (c.in-Some.ensures.value ∙ f.is c.in-Some.row.now) ∙ f.told in (
      owner_of l,
      recounted l.slot (l.count - 1) ls,
      at,
      sym (ap (λ (t : ℕ × ℕ × ℕ × ℕ). t.1) row) ∙ sym c.give_one.ensures.part,
      recounted_slots l.slot (l.count - 1) ls,
      c.raise_owners.ensures.raised hit l f.has at,
      (λ first os lists slot. (c.raise_owners.ensures.alike hit l f.has at).1 first os lists (slot ∙ sym at)),
    )

pub returns-clause-rows : goal.returns-clause-rows
returns-clause-rows g c = λ life told. let m = c.args.seat.now.me in let rows = c.args.rows.now.items in let ls = m.0.leases in let low = c.requires.row.0 in let long = c.args.rows.now.ok.0 in let f = row_at life rows ls c.args.at told (omega arith) in
    let l = f.lease in let at = at_slot life rows ls c.args.at c.args.slot f c.requires.row.1 in let hit = c.if-not-raise_owners.false in
    let row : row_told c.in-Some.row.now ≡ lease_told life l = ap row_told (c.in-Some.ensures.value ∙ f.is c.in-Some.row.now) ∙ f.told in let now = c.raise_owners.ensures.raised hit l f.has at in
    let new : row_told c.give_one.new.self ≡ (l.slot, l.round, l.count - 1, life) = c.give_one.ensures.row ∙ λ j. ((row j).0, (row j).1, (row j).2 - 1, (row j).3) in
    f.recounts l.slot (l.count - 1) c.give_one.new.self refl (c.raise_owners.ensures.alike hit l f.has at).0 new ∙ sym (ap (λ (z : Me _ Acting). map (lease_told life) z.0.leases) now)

pub returns-clause-same : goal.returns-clause-same
returns-clause-same g c = let r = c.requires.rows in let m = c.args.seat.now.me in let rows = c.args.rows.now.items in let ls = m.0.leases in let low = c.requires.row.0 in let long = c.args.rows.now.ok.0 in let f = row_at r.0.0 rows ls c.args.at r.0.1 (omega arith) in
    let l = f.lease in let at = at_slot r.0.0 rows ls c.args.at c.args.slot f c.requires.row.1 in let hit = c.if-not-raise_owners.false in
    let row : row_told c.in-Some.row.now ≡ lease_told r.0.0 l = ap row_told (c.in-Some.ensures.value ∙ f.is c.in-Some.row.now) ∙ f.told in
    let new : row_told c.give_one.new.self ≡ (l.slot, l.round, l.count - 1, r.0.0) = c.give_one.ensures.row ∙ λ j. ((row j).0, (row j).1, (row j).2 - 1, (row j).3) in
    let told = f.recounts l.slot (l.count - 1) c.give_one.new.self refl (c.raise_owners.ensures.alike hit l f.has at).0 new in
    (refl, slots_told r.0.0 (slice_set rows c.args.at c.give_one.new.self) (recounted l.slot (l.count - 1) ls) told ∙ (recounted_slots l.slot (l.count - 1) ls ∙ sym (slots_told r.0.0 rows ls r.0.1)))

pub returns-clause-there : goal.returns-clause-there
returns-clause-there g c = let r = c.requires.rows in let rows = c.args.rows.now.items in let ls = c.args.seat.now.me.0.leases in let low = c.requires.row.0 in let long = c.args.rows.now.ok.0 in let f = row_at r.0.0 rows ls c.args.at r.0.1 (omega arith) in
    (c.give_one.ensures.there, inside r.0.0 rows ls c.args.at c.args.slot f c.requires.row.1 r.0.1 c.args.place.sizes.now.slots r.1)
