use Rattle.std.proofs.Common.{ap}
use Rattle.index_script.proofs.SessionLemmas.{fresh_serves}
use Rattle.index_script.proofs.script.Script.new.Goals as goal

pub invariant_of-result : goal.invariant_of-result
invariant_of-result g c = fresh_serves (record { index = c.in_ok-index.index; desk = c.in-Ok.desk }) c.args.places c.in-Ok.ensures (ap (λ i. i.places) c.in_ok-index.ensures)
