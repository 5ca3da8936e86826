use Rattle.std.proofs.Common.{◌∙◌}
use Rattle.domain_table.proofs.tags.tag_in.Goals as goal

pub returns : goal.returns
returns c = λ y t k low few is. c.tag_of.ensures ∙ c.number_in.ensures.told y t k low few is
