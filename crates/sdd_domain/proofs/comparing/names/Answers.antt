use Rattle.std.proofs.Common.{◌≡◌, ◌<◌, ◌/◌, ◌%◌, ℕ, ◌∙◌, subst, arith}
use Rattle.sdd_plain.specs.Epochs.{tag_number}
use Rattle.domain_table.specs.Layout.{packed}
use Rattle.sdd_domain.specs.Comparing.{code_of}
use Rattle.sdd_domain.specs.Pointers.{ptr_slot, ptr_tag}
use Rattle.sdd_domain.proofs.comparing.names.Goals as goal

pub returns-then-names_slot-clause-item : goal.returns-then-names_slot-clause-item
returns-then-names_slot-clause-item g c = λ y t k low few is _. (c.names_slot.ensures y t k low few is).0 c.if-names_slot.true

pub returns-then-names_slot-clause-tag : goal.returns-then-names_slot-clause-tag
returns-then-names_slot-clause-tag g c = λ y t k low few is yes. (c.has_tag.ensures y t k low few is).0 yes

pub returns-then-names_slot-clause-both : goal.returns-then-names_slot-clause-both
returns-then-names_slot-clause-both g c = λ y t k low few is item tag. (c.has_tag.ensures y t k low few is).1 tag

pub returns-else-names_slot-clause-both : goal.returns-else-names_slot-clause-both
returns-else-names_slot-clause-both g c = λ y t k low few is item tag. (c.names_slot.ensures y t k low few is).1 item

pub returns-then-names_slot-clause-word : goal.returns-then-names_slot-clause-word
returns-then-names_slot-clause-word g c = λ yes. let w : ℕ = c.args.word in let y : ℕ = w % 2147483648 in let t : ℕ = w / 2147483648 % 4 in let k : ℕ = w / 8589934592 in let low : y < 2147483648 = omega arith in let few : t < 4 = omega arith in let is : w ≡ packed y t k = omega arith in
    let tag : t ≡ tag_number (ptr_tag c.args.current) = (c.has_tag.ensures y t k low few is).0 yes in let code : k ≡ code_of (ptr_slot c.args.current) = (c.names_slot.ensures y t k low few is).0 c.if-names_slot.true in
    (y, low, subst (λ z. z < 4) tag few, is ∙ λ j. packed y (tag j) (code j))
