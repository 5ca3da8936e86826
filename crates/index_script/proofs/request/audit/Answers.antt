use Rattle.index_script.specs.Requests.{Audit}
use Rattle.index_script.proofs.NumberLemmas.{unfit}
use Rattle.index_script.proofs.request.audit.Goals as goal

pub returns-in-Err : goal.returns-in-Err
returns-in-Err c = unfit Audit c.args.rest.now c.in-Err.fault c.in-Err.ensures.err
