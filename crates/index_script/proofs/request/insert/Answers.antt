use Rattle.index_script.specs.Requests.{Insert}
use Rattle.index_script.proofs.NumberLemmas.{unfit}
use Rattle.index_script.proofs.request.insert.Goals as goal

pub returns-in-Err : goal.returns-in-Err
returns-in-Err c = unfit Insert c.args.rest.now c.in-Err.fault c.in-Err.ensures.err
