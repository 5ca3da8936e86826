use Rattle.index_script.specs.Requests.{Open}
use Rattle.index_script.proofs.NumberLemmas.{unfit}
use Rattle.index_script.proofs.request.open.Goals as goal

pub returns-in-Err : goal.returns-in-Err
returns-in-Err c = unfit Open c.args.rest.now c.in-Err.fault c.in-Err.ensures.err
