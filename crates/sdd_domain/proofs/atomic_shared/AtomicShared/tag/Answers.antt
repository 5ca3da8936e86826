use Rattle.std.proofs.Common.{◌≡◌, ◌<◌, sym, ap, ◌∙◌, subst}
use Rattle.sdd_plain.specs.Epochs.{tag_number}
use Rattle.domain_table.specs.Layout.{packed}
use Rattle.sdd_domain.proofs.atomic_shared.AtomicShared.tag.Goals as goal

pub returns-clause-looked : goal.returns-clause-looked
returns-clause-looked g c = let n = c.read.ensures.named in let f = n.2 in let same : tag_number c.tag_in.result ≡ n.0 = c.tag_in.ensures f.0 n.0 n.1 f.1 f.2 f.3 in
    (n.1, (c.read.result, (f.0, f.1, subst (λ z. z < 4) (sym same) f.2, f.3 ∙ ap (λ z. packed f.0 z n.1) (sym same)), c.read.ensures.looked))
