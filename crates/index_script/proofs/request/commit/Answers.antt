use Rattle.std.proofs.lemmas.Bool.{false≢true}
use Rattle.index_script.specs.Requests.{Commit}
use Rattle.index_script.proofs.NumberLemmas.{no_reads, unfit}
use Rattle.index_script.proofs.request.commit.Goals as goal

pub returns-in-Err : goal.returns-in-Err
returns-in-Err c = unfit Commit c.args.rest.now c.in-Err.fault (no_reads c.args.rest.now c.in-Err.fault (λ e. false≢true (rw e at c.if-eq.ensures)) c.in-Err.ensures.err)
