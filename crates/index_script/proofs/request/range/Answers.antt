use Rattle.index_script.specs.Requests.{Range}
use Rattle.index_script.proofs.NumberLemmas.{unfit}
use Rattle.index_script.proofs.request.range.Goals as goal

pub returns-in-Err : goal.returns-in-Err
returns-in-Err c = unfit Range c.args.rest.now c.in-Err.fault c.in-Err.ensures.err
