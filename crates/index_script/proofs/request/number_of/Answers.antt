use Rattle.index_script.specs.Requests.{Number}
use Rattle.index_script.proofs.NumberLemmas.{unfit}
use Rattle.index_script.proofs.request.number_of.Goals as goal

pub returns-in-Err : goal.returns-in-Err
returns-in-Err c = unfit Number c.args.rest.now c.in-Err.fault c.in-Err.ensures.err
