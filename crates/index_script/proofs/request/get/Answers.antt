use Rattle.index_script.specs.Requests.{Get}
use Rattle.index_script.proofs.NumberLemmas.{unfit}
use Rattle.index_script.proofs.request.get.Goals as goal

pub returns-in-Err : goal.returns-in-Err
returns-in-Err c = unfit Get c.args.rest.now c.in-Err.fault c.in-Err.ensures.err
