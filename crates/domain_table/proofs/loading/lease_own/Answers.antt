use Rattle.std.proofs.Common.{◌≡◌, ℕ, ◌∷◌, sym, ap, ◌∙◌, subst, arith}
use Rattle.domain_table.specs.Contents.{IsIn}
use Rattle.sdd_homes.specs.declared.Owner.{Owner}
use Rattle.domain_table.specs.Plays.{HasLeasedAt}
use Rattle.domain_table.specs.declared.board.Acting.{Acting}
use Rattle.domain_table.specs.declared.row.Row.{Row}
use Rattle.domain_table.proofs.Rows.{row_at}
use Rattle.domain_table.proofs.Noted.{is_leased, out_now}
use Rattle.domain_table.proofs.loading.lease_own.Goals as goal

pub note_slot-requires-clause-found : goal.note_slot-requires-clause-found
note_slot-requires-clause-found g c = let m = c.args.seat.now.me in let q = c.requires.owner in
    (m, subst (λ k. HasLeasedAt (IsIn g.H.Holding.holds) m k c.load_own.new.seat.me) q.3 (c.load_own.ensures.loaded q.0 q.1 q.2).0, c.requires.«open».1, c.requires.table.0.2, c.requires.rows.0)

pub returns-clause-loaded : goal.returns-clause-loaded
returns-clause-loaded g c = let m = c.args.seat.now.me in let q = c.requires.owner in
    is_leased m c.note_slot.new.seat.me (c.note_slot.ensures.noted m (subst (λ k. HasLeasedAt (IsIn g.H.Holding.holds) m k c.load_own.new.seat.me) q.3 (c.load_own.ensures.loaded q.0 q.1 q.2).0) c.requires.rows.0)

pub returns-clause-out : goal.returns-clause-out
returns-clause-out g c = let m = c.args.seat.now.me in let q = c.requires.owner in
    out_now m c.note_slot.new.seat.me (c.note_slot.ensures.noted m (subst (λ k. HasLeasedAt (IsIn g.H.Holding.holds) m k c.load_own.new.seat.me) q.3 (c.load_own.ensures.loaded q.0 q.1 q.2).0) c.requires.rows.0)

-- the row of the slot tells a lease, which is of the owner's round
pub returns-clause-round : goal.returns-clause-round
returns-clause-round g c = λ o os first d. let q = c.requires.owner in let n = c.note_slot.ensures in let rows = c.note_slot.new.rows in let long = rows.ok.0 in let low = n.row in
    let r = row_at c.args.life.now.id rows.items c.note_slot.new.seat.me.0.leases c.note_slot.result n.rows.0 (omega arith) in let tells = r.told in
    let heads : q.0 ∷ q.1 ≡ o ∷ os = sym q.2 ∙ first in let same : q.0 ≡ o = cc in
    let slot : r.lease.slot ≡ o.slot = sym (ap (λ (t : ℕ × ℕ × ℕ × ℕ). t.0) tells) ∙ (sym (ap (λ (x : Row _). x.slot) (r.is d)) ∙ (n.slot d ∙ (sym q.3 ∙ ap (λ (z : Owner). z.slot) same))) in
    let has = subst (λ (z : Acting). Rattle.sdd_steps.specs.State.Has z.leases r.lease) n.view r.has in
    ap (λ (x : Row _). x.lent.pledge.id) (r.is d) ∙ (ap (λ (t : ℕ × ℕ × ℕ × ℕ). t.1) tells ∙ (c.load_own.ensures.loaded o os first).1 r.lease has slot)
