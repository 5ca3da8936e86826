use Rattle.index_script.specs.Requests.{Near}
use Rattle.index_script.proofs.NumberLemmas.{unfit}
use Rattle.index_script.proofs.request.near.Goals as goal

pub returns-in-Err : goal.returns-in-Err
returns-in-Err c = unfit Near c.args.rest.now c.in-Err.fault c.in-Err.ensures.err
