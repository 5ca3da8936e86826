use Rattle.index_script.specs.Requests.{Close}
use Rattle.index_script.proofs.NumberLemmas.{unfit}
use Rattle.index_script.proofs.request.close.Goals as goal

pub returns-in-Err : goal.returns-in-Err
returns-in-Err c = unfit Close c.args.rest.now c.in-Err.fault c.in-Err.ensures.err
