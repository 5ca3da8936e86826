use Rattle.std.proofs.Common.{◌≡◌, ◌≢◌, ℕ, Option, None, Some, refl, sym, ap, ◌∙◌, arith}
use Rattle.std.proofs.lemmas.Bool.{false≢true}
use Rattle.sdd_plain.specs.Epochs.{tag_number}
use Rattle.sdd_domain.specs.Comparing.{code_of}
use Rattle.shared_owned.proofs.RawLemmas.{told, slot_code, other_slot}
use Rattle.shared_owned.proofs.raw_items.RawItems.into_ptr.Goals as goal

-- the cell named nothing
pub returns-in_default-slot-clause-looked : goal.returns-in_default-slot-clause-looked
returns-in_default-slot-clause-looked g c = let p = c.load-of.result in let none : p.slot ≡ None = sym c.slot.ensures ∙ c.in_default-slot.is in let code : code_of p.slot ≡ 0 = ap code_of none in
    told _ c.args.pointer.slot c.in-Some.slot c.in-Some.is (λ _. (c.in-Some-at.cell.now.cell, tag_number p.tag, code_of p.slot, c.in-Some-at.ensures.cell, c.load-of.ensures.looked, ((λ h. absurd (false≢true h)), λ h. absurd (omega (arith, code, h)))))

-- it named the slot's item
pub returns-then-found-slot-clause-looked : goal.returns-then-found-slot-clause-looked
returns-then-found-slot-clause-looked g c = let p = c.load-of.result in let is : p.slot ≡ Some c.in-Some-slot.found = sym c.slot.ensures ∙ c.in-Some-slot.is in let same = c.if-found-slot.true in
    told _ c.args.pointer.slot c.in-Some.slot c.in-Some.is (λ _. (c.in-Some-at.cell.now.cell, tag_number p.tag, code_of p.slot, c.in-Some-at.ensures.cell, c.load-of.ensures.looked, ((λ _. slot_code p.slot c.in-Some.slot (is ∙ ap Some same)), λ _. refl)))

-- it named another one
pub returns-clause-looked : goal.returns-clause-looked
returns-clause-looked g c = let p = c.load-of.result in let is : p.slot ≡ Some c.in-Some-slot.found = sym c.slot.ensures ∙ c.in-Some-slot.is in
    told _ c.args.pointer.slot c.in-Some.slot c.in-Some.is (λ _. (c.in-Some-at.cell.now.cell, tag_number p.tag, code_of p.slot, c.in-Some-at.ensures.cell, c.load-of.ensures.looked, ((λ h. absurd (false≢true h)), λ h. absurd (other_slot p.slot c.in-Some.slot (λ e. c.if-found-slot.false (cc)) h))))
