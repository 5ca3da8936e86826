use Rattle.index_script.proofs.NumberLemmas.{no_value}
use Rattle.index_script.proofs.request.pair.Goals as goal

pub returns-in_default-clause-err : goal.returns-in_default-clause-err
returns-in_default-clause-err c = no_value c.args.rest.now c.in_default.ensures.none
