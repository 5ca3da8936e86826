use Rattle.std.proofs.Common.{◌≡◌, ◌+◌, map, refl, sym, ap, ◌∙◌, subst}
use Rattle.atomic_table.specs.Table.{Me}
use Rattle.domain_table.specs.Contents.{IsIn}
use Rattle.domain_table.specs.Leases.{lease_told, HasCode}
use Rattle.domain_table.specs.declared.board.Acting.{Acting}
use Rattle.domain_table.proofs.Leasing.{nothing_named, slot_found}
use Rattle.domain_table.proofs.Noted.{none_noted}
use Rattle.domain_table.proofs.loading.note_found.Goals as goal

-- no item is named, and nothing happened
pub returns-in_err-slot-clause-noted : goal.returns-in_err-slot-clause-noted
returns-in_err-slot-clause-noted g c = λ m loaded told. let m1 = c.args.seat.now.me in none_noted m m1 (nothing_named (IsIn g.H.Holding.holds) m m1 c.args.word loaded c.in_err-slot.ensures.none)

pub returns-in_err-slot-clause-rows : goal.returns-in_err-slot-clause-rows
returns-in_err-slot-clause-rows g c = let q = c.requires.found in let e = nothing_named (IsIn g.H.Holding.holds) q.0 c.args.seat.now.me c.args.word q.1 c.in_err-slot.ensures.none in (q.4 ∙ sym (ap (λ (z : Me _ Acting). map (lease_told c.args.life.now.id) z.0.leases) e), c.requires.rows.0, refl)

-- the item of the slot was leased
pub note_slot-requires-clause-found : goal.note_slot-requires-clause-found
note_slot-requires-clause-found g c = let q = c.requires.found in (q.0, slot_found (IsIn g.H.Holding.holds) q.0 c.args.seat.now.me c.args.word q.1 c.in_ok-slot.slot c.in_ok-slot.ensures.some.1, q.2, q.3, q.4)

pub returns-clause-noted : goal.returns-clause-noted
returns-clause-noted g c = λ m loaded told. c.note_slot.ensures.noted m (slot_found (IsIn g.H.Holding.holds) m c.args.seat.now.me c.args.word loaded c.in_ok-slot.slot c.in_ok-slot.ensures.some.1) told

-- what the word names is what the row is of
pub returns-in_err-slot-clause-code : goal.returns-in_err-slot-clause-code
returns-in_err-slot-clause-code g c = λ y t k low few is. let none : k ≡ 0 = c.in_err-slot.ensures.none y t k low few is in let e = c.from_residual.ensures in subst (λ r. HasCode c.args.rows.now.items r k) (sym e) none

pub returns-clause-code : goal.returns-clause-code
returns-clause-code g c = λ y t k low few is d. let named : k ≡ c.in_ok-slot.slot + 1 = c.in_ok-slot.ensures.some.1 y t k low few is in ap (λ z. z + 1) (c.note_slot.ensures.slot d) ∙ sym named
