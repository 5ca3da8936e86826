use Rattle.std.proofs.Common.{◌≡◌, ℕ, Option, None, Some, IfSome, ap, ◌∙◌}
use Rattle.sdd_plain.specs.Epochs.{tag_number}
use Rattle.sdd_domain.specs.Comparing.{owner_code, owner_slot, code_of}
use Rattle.sdd_domain.specs.declared.shared.Shared.{Shared}
use Rattle.sdd_domain.proofs.atomic_shared.AtomicShared.get_shared.Goals as goal

code_is : {T : Type 0} (o : Option (Shared T)) (k : Option ℕ) → IfSome o (λ s. owner_slot (Some s) ≡ k) → IfSome o (λ s. owner_code (Some s) ≡ code_of k)
code_is None k e = tt
code_is (Some s) k e = ap code_of e

pub returns-clause-looked : goal.returns-clause-looked
returns-clause-looked g c = let e = c.load.ensures.looked in let p = c.load.result in
    (tag_number p.tag, code_of p.slot, (e.0, e.1, c.get_shared.ensures.cells ∙ e.2), code_is c.get_shared.result p.slot c.get_shared.ensures.exact)
