use Rattle.index_script.proofs.NumberLemmas.{no_third, not_three}
use Rattle.index_script.proofs.request.number_and_bounds.Goals as goal

pub returns-in_default-clause-err : goal.returns-in_default-clause-err
returns-in_default-clause-err c = no_third c.args.rest.now c.in_default.ensures.none

pub returns-in_default-two_words-clause-err : goal.returns-in_default-two_words-clause-err
returns-in_default-two_words-clause-err c = not_three c.args.rest.now c.in-Some.one.now c.in-Some.behind.now c.in-Some.ensures.some c.in_default-two_words.ensures.none
