use Rattle.index_script.specs.Requests.{Has}
use Rattle.index_script.proofs.NumberLemmas.{unfit}
use Rattle.index_script.proofs.request.has.Goals as goal

pub returns-in-Err : goal.returns-in-Err
returns-in-Err c = unfit Has c.args.rest.now c.in-Err.fault c.in-Err.ensures.err
