use Rattle.index_script.specs.Requests.{Delete}
use Rattle.index_script.proofs.NumberLemmas.{unfit}
use Rattle.index_script.proofs.request.delete.Goals as goal

pub returns-in-Err : goal.returns-in-Err
returns-in-Err c = unfit Delete c.args.rest.now c.in-Err.fault c.in-Err.ensures.err
