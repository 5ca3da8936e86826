use Rattle.std.proofs.Common.{ap, ◌∙◌}
use Rattle.sdd_plain.specs.Epochs.{tag_number}
use Rattle.domain_table.specs.Layout.{packed}
use Rattle.domain_table.specs.Leases.{code_told}
use Rattle.sdd_domain.proofs.atomic_shared.AtomicShared.found.Goals as goal

pub returns-in-None-clause-looked : goal.returns-in-None-clause-looked
returns-in-None-clause-looked g c = let e = c.lease-seen.ensures.looked in let f = e.1 in (e.0, (f.0, f.1, f.2, f.3 ∙ ap (λ z. packed f.0 (tag_number c.lease-seen.result.1) (code_told z)) c.in-None.is), e.2)
