use Rattle.std.proofs.Common.{◌≡◌, ◌≢◌, ℕ, refl, ap, sym, ◌∙◌, arith}
use Rattle.std.proofs.lemmas.Bool.{false≢true}
use Rattle.sdd_plain.specs.Epochs.{tag_number}
use Rattle.sdd_domain.specs.Comparing.{owner_code}
use Rattle.sdd_domain.proofs.CellSteps.{exchanged_before}
use Rattle.shared_owned.proofs.RawLemmas.{told, none_code, some_code, other_code}
use Rattle.shared_owned.proofs.raw_items.RawItems.from_raw.Goals as goal

-- nothing was in the cell
pub returns-in_default-found-clause-taken : goal.returns-in_default-found-clause-taken
returns-in_default-found-clause-taken g c = let e = c.swap-found in let r = e.result.0 in
    told _ c.args.pointer.slot c.in-Some.slot c.in-Some.is (λ _. (c.in-Some-at.cell.now.cell, tag_number e.result.1, owner_code r, c.in-Some-at.ensures.cell, e.ensures.exchanged, ((λ h. absurd (false≢true h)), λ h. absurd (none_code r c.in-Some.slot c.in_default-found.is h))))

-- it was the slot's item
pub returns-then-slot-clause-taken : goal.returns-then-slot-clause-taken
returns-then-slot-clause-taken g c = let e = c.swap-found in let r = e.result.0 in let s = c.in-Some-found.owner in let is = c.in-Some-found.is in let of = c.slot.ensures in let same : s.slot ≡ c.in-Some.slot = cc in
    told _ c.args.pointer.slot c.in-Some.slot c.in-Some.is (λ _. (c.in-Some-at.cell.now.cell, tag_number e.result.1, owner_code r, c.in-Some-at.ensures.cell, e.ensures.exchanged, ((λ _. some_code r s c.in-Some.slot is same), λ _. refl)))

-- it was another one
pub returns-clause-taken : goal.returns-clause-taken
returns-clause-taken g c = let e = c.swap-found in let r = e.result.0 in let s = c.in-Some-found.owner in let is = c.in-Some-found.is in let of = c.slot.ensures in let other : s.slot ≢ c.in-Some.slot = (λ h. c.if-slot.false (cc)) in
    let cell : ℕ = c.in-Some-at.cell.now.cell in let t : ℕ = tag_number e.result.1 in
    told _ c.args.pointer.slot c.in-Some.slot c.in-Some.is (λ _. (cell, t, owner_code r, c.in-Some-at.ensures.cell, exchanged_before cell t (owner_code r) 0 0 c.args.local.now e.new.local c.release.new.local e.ensures.exchanged c.release.ensures.cells, ((λ h. absurd (false≢true h)), λ h. absurd (other_code r s c.in-Some.slot is other h))))
