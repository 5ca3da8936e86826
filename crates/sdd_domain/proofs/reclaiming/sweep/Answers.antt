use Rattle.std.proofs.Common.{◌≡◌, ◌≤◌, ◌+◌, ℕ, List, [], ◌∷◌, ◌++◌, true, Some, map, length, length-append, append_assoc, append-nil, le-leb, ap, sym, ◌∙◌, refl, subst, ⊎_elim, arith}
use Rattle.atomic_table.specs.Table.{Me}
use Rattle.sdd_steps.specs.State.{Has}
use Rattle.sdd_steps.specs.Steps.{is_ready, is_past}
use Rattle.sdd_homes.specs.declared.Garbage.{Garbage}
use Rattle.sdd_homes.specs.declared.Lease.{Lease}
use Rattle.domain_table.specs.Ledgers.{WaitsIn}
use Rattle.domain_table.specs.Leases.{lease_told, all_below}
use Rattle.domain_table.specs.declared.board.Acting.{Acting}
use Rattle.domain_garbage.specs.Bag.{IsKept, NoneDue}
use Rattle.sdd_domain.proofs.reclaiming.sweep.Goals as goal

-- three below the count that was read again is past
past : (note count : ℕ) (reread : Rattle.std.specs.Prelude.Option ℕ) → reread ≡ Some count → note + 3 ≤ count → is_past note reread ≡ true
past note count reread is le = ap (is_past note) is ∙ le-leb (note + 3) count le

pub loop-slot-init : goal.loop-slot-init
loop-slot-init g c = let m = c.reread-count.new.seat.me in let noted = c.reread-count.ensures.noted in record {
  seat = (refl, refl);
  swept = (m.0.slot, m.0.waits, m.0.leases, m.0.collected, refl, refl);
  rows = λ life told. told;
  same = (refl, refl);
  waits = subst (λ (z : Me _ Acting). WaitsIn c.args.place.sizes.now.slots z.0.waits c.args.bags.now) (sym noted) c.requires.waits;
  due = refl;
  kept = subst (λ (z : Me _ Acting). IsKept c.args.place.sizes.now.slots z.0.collected c.args.kept.now) (sym noted) c.requires.kept;
  gone = ([], sym (append-nil m.0.collected), λ w h. absurd h);
}

pub reclaim_noted-item-requires-clause-noted : goal.reclaim_noted-item-requires-clause-noted
reclaim_noted-item-requires-clause-noted g c = let inv = c.loop-slot.invariant in let m1 = c.take_due.new.seat.me in let f = c.in-Some.ensures.taken in let seat = c.take_due.ensures.seat in let still = seat.2 in let at = ap (λ (z : Me _ Acting). z.0.collected) still ∙ f.2 in let swept = still ∙ inv.swept.5 in
    (f.1, f.0, at, past f.1.age c.reread-count.result m1.0.known.reread (ap (λ (z : Me _ Acting). z.0.known.reread) swept ∙ ap (λ (z : Me _ Acting). z.0.known.reread) c.reread-count.ensures.noted) f.4, f.3)

pub give_up_under-requires-clause-owners : goal.give_up_under-requires-clause-owners
give_up_under-requires-clause-owners g c = let inv = c.loop-slot.invariant in let m1 = c.take_due.new.seat.me in let f = c.in-Some.ensures.taken in let seat = c.take_due.ensures.seat in let still = seat.2 in let at = ap (λ (z : Me _ Acting). z.0.collected) still ∙ f.2 in let swept = still ∙ inv.swept.5 in
    let r = c.reclaim_noted-item.ensures.reclaimed f.1 f.0 at in (r.0, m1.0.hand, r.1, ap (λ (z : Me _ Acting). z.0.hand) r.2)

pub give_up_under-requires-clause-rows : goal.give_up_under-requires-clause-rows
give_up_under-requires-clause-rows g c = let inv = c.loop-slot.invariant in let m1 = c.take_due.new.seat.me in let f = c.in-Some.ensures.taken in let seat = c.take_due.ensures.seat in let still = seat.2 in let at = ap (λ (z : Me _ Acting). z.0.collected) still ∙ f.2 in let swept = still ∙ inv.swept.5 in let q = c.requires.rows in
    let r = c.reclaim_noted-item.ensures.reclaimed f.1 f.0 at in ((q.0.0, inv.rows q.0.0 (q.0.1 ∙ sym (ap (λ (z : Me _ Acting). map (lease_told q.0.0) z.0.leases) c.reread-count.ensures.noted)) ∙ (sym (ap (λ (z : Me _ Acting). map (lease_told q.0.0) z.0.leases) still) ∙ sym (ap (λ (z : Me _ Acting). map (lease_told q.0.0) z.0.leases) r.2))), ap (all_below c.args.place.sizes.now.slots) inv.same.1 ∙ q.1)

pub give_up_under-requires-clause-table : goal.give_up_under-requires-clause-table
give_up_under-requires-clause-table g c = let inv = c.loop-slot.invariant in let m1 = c.take_due.new.seat.me in let f = c.in-Some.ensures.taken in let seat = c.take_due.ensures.seat in let still = seat.2 in let at = ap (λ (z : Me _ Acting). z.0.collected) still ∙ f.2 in let swept = still ∙ inv.swept.5 in let q = c.requires.table in
    let r = c.reclaim_noted-item.ensures.reclaimed f.1 f.0 at in ((c.reclaim_noted-item.ensures.seat.0 ∙ (seat.0 ∙ (inv.seat.0 ∙ (c.reread-count.ensures.seat.0 ∙ q.0.0))), q.0.1, ap (λ (z : Me _ Acting). z.0.sizes) r.2 ∙ (ap (λ (z : Me _ Acting). z.0.sizes) swept ∙ (ap (λ (z : Me _ Acting). z.0.sizes) c.reread-count.ensures.noted ∙ q.0.2)), q.0.3, q.0.4), q.1)

pub give_up_under-requires-clause-ready : goal.give_up_under-requires-clause-ready
give_up_under-requires-clause-ready g c = let inv = c.loop-slot.invariant in let m1 = c.take_due.new.seat.me in let f = c.in-Some.ensures.taken in let seat = c.take_due.ensures.seat in let still = seat.2 in let at = ap (λ (z : Me _ Acting). z.0.collected) still ∙ f.2 in let swept = still ∙ inv.swept.5 in let q = c.requires.ready.0 in
    let r = c.reclaim_noted-item.ensures.reclaimed f.1 f.0 at in (
      ap (λ (z : Me _ Acting). z.0.kind) r.2 ∙ (ap (λ (z : Me _ Acting). z.0.kind) swept ∙ (ap (λ (z : Me _ Acting). z.0.kind) c.reread-count.ensures.noted ∙ q.0)),
      ap (λ (z : Me _ Acting). z.0.number) r.2 ∙ (ap (λ (z : Me _ Acting). z.0.number) swept ∙ (ap (λ (z : Me _ Acting). z.0.number) c.reread-count.ensures.noted ∙ q.1)),
      ap (λ (z : Me _ Acting). is_ready z.0.known) r.2 ∙ (ap (λ (z : Me _ Acting). is_ready z.0.known) swept ∙ (ap (λ (z : Me _ Acting). is_ready z.0.known) c.reread-count.ensures.noted ∙ q.2)),
      ap (λ (z : Me _ Acting). z.0.releasing) r.2 ∙ (ap (λ (z : Me _ Acting). z.0.releasing) swept ∙ (ap (λ (z : Me _ Acting). z.0.releasing) c.reread-count.ensures.noted ∙ q.3)),
    )

pub give_up_under-requires-clause-waits : goal.give_up_under-requires-clause-waits
give_up_under-requires-clause-waits g c = let inv = c.loop-slot.invariant in let m1 = c.take_due.new.seat.me in let f = c.in-Some.ensures.taken in let seat = c.take_due.ensures.seat in let still = seat.2 in let at = ap (λ (z : Me _ Acting). z.0.collected) still ∙ f.2 in let swept = still ∙ inv.swept.5 in let bags = c.loop-slot.bags in
    let r = c.reclaim_noted-item.ensures.reclaimed f.1 f.0 at in subst (λ (z : Me _ Acting). WaitsIn c.args.place.sizes.now.slots z.0.waits bags) (sym r.2) (subst (λ (z : Me _ Acting). WaitsIn c.args.place.sizes.now.slots z.0.waits bags) (sym still) inv.waits)

pub loop-slot-preserved : goal.loop-slot-preserved
loop-slot-preserved g c = let inv = c.loop-slot.invariant in let m1 = c.take_due.new.seat.me in let f = c.in-Some.ensures.taken in let seat = c.take_due.ensures.seat in let still = seat.2 in let at = ap (λ (z : Me _ Acting). z.0.collected) still ∙ f.2 in let swept = still ∙ inv.swept.5 in let m0 = c.reread-count.new.seat.me in let k = c.in-Some.slot in
    let r = c.reclaim_noted-item.ensures.reclaimed f.1 f.0 at in let e = c.give_up_under.ensures in let u = e.released r.0 m1.0.hand r.1 (ap (λ (z : Me _ Acting). z.0.hand) r.2) in
    let all : c.give_up_under.new.seat.me ≡ (record m0.0 { slot = k; leases = u.1; waits = u.0; collected = f.0 }, m0.1) = u.3 ∙ (ap (λ (z : Me _ Acting). (record z.0 { hand = m1.0.hand; leases = u.1; waits = u.0 }, z.1)) r.2 ∙ ap (λ (z : Me _ Acting). (record z.0 { slot = k; leases = u.1; waits = u.0; collected = f.0 }, z.1)) swept) in record {
      seat = (e.seat.0 ∙ (c.reclaim_noted-item.ensures.seat.0 ∙ (seat.0 ∙ inv.seat.0)), e.seat.1 ∙ (c.reclaim_noted-item.ensures.seat.1 ∙ (seat.1 ∙ inv.seat.1)));
      swept = (k, u.0, u.1, f.0, u.2 ∙ (ap (λ (z : Me _ Acting). map (λ (l : Lease). l.slot) z.0.leases) r.2 ∙ (ap (λ (z : Me _ Acting). map (λ (l : Lease). l.slot) z.0.leases) swept ∙ inv.swept.4)), all);
      rows = λ life told. e.rows.0 life (inv.rows life told ∙ (sym (ap (λ (z : Me _ Acting). map (lease_told life) z.0.leases) still) ∙ sym (ap (λ (z : Me _ Acting). map (lease_told life) z.0.leases) r.2)));
      same = (e.rows.1 ∙ inv.same.0, e.rows.2 ∙ inv.same.1);
      waits = e.waits.0;
      due = e.waits.1 ∙ inv.due;
      kept = subst (λ (z : Me _ Acting). IsKept c.args.place.sizes.now.slots z.0.collected c.take_due.new.kept) (sym all) f.5;
      gone = (
        f.1 ∷ inv.gone.0,
        inv.gone.1 ∙ (ap (λ (xs : List Garbage). xs ++ inv.gone.0) f.2 ∙ (append_assoc f.0 (f.1 ∷ []) inv.gone.0 ∙ ap (λ (z : Me _ Acting). z.0.collected ++ (f.1 ∷ inv.gone.0)) (sym all))),
        λ v h. ⊎_elim (λ (same : f.1 ≡ v). subst (λ (z : Garbage). z.age + 3 ≤ c.reread-count.result) same f.4) (λ (x : Has inv.gone.0 v). inv.gone.2 v x) h,
      );
    }

pub loop-slot-smaller : goal.loop-slot-smaller
loop-slot-smaller g c = let inv = c.loop-slot.invariant in let m1 = c.take_due.new.seat.me in let f = c.in-Some.ensures.taken in let seat = c.take_due.ensures.seat in let still = seat.2 in let at = ap (λ (z : Me _ Acting). z.0.collected) still ∙ f.2 in let swept = still ∙ inv.swept.5 in
    let r = c.reclaim_noted-item.ensures.reclaimed f.1 f.0 at in let u = c.give_up_under.ensures.released r.0 m1.0.hand r.1 (ap (λ (z : Me _ Acting). z.0.hand) r.2) in let last = ap (λ (z : Me _ Acting). length z.0.collected) u.3 in let less = ap (λ (z : Me _ Acting). length z.0.collected) r.2 in let was = ap length f.2 in let long = length-append f.0 (f.1 ∷ []) in omega arith

pub returns-clause-left : goal.returns-clause-left
returns-clause-left g c = let inv = c.loop-slot.invariant in let n = c.in_default.ensures.none in let still = c.take_due.ensures.seat.2 in let same = ap (λ (z : Me _ Acting). z.0.collected) (sym still) in (inv.gone.0, sym (ap (λ (z : Me _ Acting). z.0.collected) c.reread-count.ensures.noted) ∙ (inv.gone.1 ∙ ap (λ (xs : List Garbage). xs ++ inv.gone.0) same), inv.gone.2, subst (λ (xs : List Garbage). NoneDue c.reread-count.result xs) same n.1)

pub returns-clause-seat : goal.returns-clause-seat
returns-clause-seat g c = let inv = c.loop-slot.invariant in let still = c.take_due.ensures.seat in (still.0 ∙ (inv.seat.0 ∙ c.reread-count.ensures.seat.0), still.1 ∙ (inv.seat.1 ∙ c.reread-count.ensures.seat.1))

pub returns-clause-swept : goal.returns-clause-swept
returns-clause-swept g c = let s = c.loop-slot.invariant.swept in let noted = c.reread-count.ensures.noted in
    (s.0, s.1, s.2, s.3, s.4 ∙ ap (λ (z : Me _ Acting). map (λ (l : Lease). l.slot) z.0.leases) noted, c.take_due.ensures.seat.2 ∙ (s.5 ∙ ap (λ (z : Me _ Acting). (record z.0 { slot = s.0; leases = s.2; waits = s.1; collected = s.3 }, z.1)) noted))

pub returns-clause-rows : goal.returns-clause-rows
returns-clause-rows g c = let inv = c.loop-slot.invariant in
    ((λ life told. inv.rows life (told ∙ sym (ap (λ (z : Me _ Acting). map (lease_told life) z.0.leases) c.reread-count.ensures.noted)) ∙ sym (ap (λ (z : Me _ Acting). map (lease_told life) z.0.leases) c.take_due.ensures.seat.2)), inv.same.0, inv.same.1)
