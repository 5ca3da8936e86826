use Rattle.serial_history.proofs.ReplayLemmas.{cleared}
use Rattle.serial_history.proofs.replay.clears.Goals as goal

pub returns-in-Clear : goal.returns-in-Clear
returns-in-Clear g c = λ t. cleared g.K.Ord.cmp c.args.writes.now c.loop-write.write-index c.write-item.result c.loop-write-test.true c.write-item.is c.in-Clear.is
