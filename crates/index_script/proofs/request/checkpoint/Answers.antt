use Rattle.index_script.specs.Requests.{Checkpoint}
use Rattle.index_script.proofs.NumberLemmas.{unfit}
use Rattle.index_script.proofs.request.checkpoint.Goals as goal

pub returns-in-Err : goal.returns-in-Err
returns-in-Err c = unfit Checkpoint c.args.rest.now c.in-Err.fault c.in-Err.ensures.err
