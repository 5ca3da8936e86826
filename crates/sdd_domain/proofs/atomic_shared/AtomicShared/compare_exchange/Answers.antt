use Rattle.std.proofs.Common.{◌≡◌, ℕ, Option, None, Some, sym, refl, ap, ◌∙◌, arith}
use Rattle.sdd_plain.specs.Epochs.{tag_number}
use Rattle.domain_table.specs.Layout.{packed}
use Rattle.sdd_domain.specs.Comparing.{owner_code, owner_slot, code_of}
use Rattle.sdd_domain.specs.Pointers.{ptr_slot, ptr_tag}
use Rattle.sdd_domain.specs.declared.shared.Shared.{Shared}
use Rattle.sdd_domain.proofs.atomic_shared.AtomicShared.compare_exchange.Goals as goal

-- the code tells the slot
slot_is : {T : Type 0} (o : Option (Shared T)) (s : Option ℕ) → owner_code o ≡ code_of s → owner_slot o ≡ s
slot_is None None e = refl
slot_is None (Some k) e = absurd (omega arith)
slot_is (Some o) None e = absurd (omega arith)
slot_is (Some o) (Some k) e = let same : o.slot ≡ k = omega arith in ap Some same

-- the word that was exchanged names what was given
pub returns-in-Ok-clause-exact : goal.returns-in-Ok-clause-exact
returns-in-Ok-clause-exact g c = let n = c.if-not-names.ensures.word refl in slot_is c.in-Ok.old (ptr_slot c.args.current) (c.in-Ok.ensures.hit n.0 (tag_number (ptr_tag c.args.current)) (code_of (ptr_slot c.args.current)) n.1 n.2 n.3)

-- the word that was found is the one that was expected
pub returns-in-Ok-clause-exchanged : goal.returns-in-Ok-clause-exchanged
returns-in-Ok-clause-exchanged g c = let n = c.if-not-names.ensures.word refl in let t : ℕ = tag_number (ptr_tag c.args.current) in let k : ℕ = code_of (ptr_slot c.args.current) in let hit = c.in-Ok.ensures.hit n.0 t k n.1 n.2 n.3 in let e = c.in-Ok.ensures.exchanged in
    (c.word_of-word.result, (n.0, n.1, n.2, n.3 ∙ ap (packed n.0 t) (sym hit)), e)
