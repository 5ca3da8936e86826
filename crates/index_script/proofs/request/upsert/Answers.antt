use Rattle.index_script.specs.Requests.{Upsert}
use Rattle.index_script.proofs.NumberLemmas.{unfit}
use Rattle.index_script.proofs.request.upsert.Goals as goal

pub returns-in-Err : goal.returns-in-Err
returns-in-Err c = unfit Upsert c.args.rest.now c.in-Err.fault c.in-Err.ensures.err
