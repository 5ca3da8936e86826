use Rattle.index_script.specs.Requests.{Remove}
use Rattle.index_script.proofs.NumberLemmas.{unfit}
use Rattle.index_script.proofs.request.remove.Goals as goal

pub returns-in-Err : goal.returns-in-Err
returns-in-Err c = unfit Remove c.args.rest.now c.in-Err.fault c.in-Err.ensures.err
