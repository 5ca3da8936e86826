use Rattle.std.proofs.Common.{◌≡◌, sym, ◌∙◌, eq-eqb, eqb-true}
use Rattle.domain_table.proofs.tags.has_tag.Goals as goal

pub returns : goal.returns
returns c = λ y t k low few is. let told : c.number_in.result ≡ t = c.number_in.ensures.told y t k low few is in
    ((λ e. sym told ∙ (eqb-true c.number_in.result c.number_of.result e ∙ c.number_of.ensures.number)), (λ e. eq-eqb c.number_in.result c.number_of.result (told ∙ (e ∙ sym c.number_of.ensures.number))))
