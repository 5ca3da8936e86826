use Rattle.std.proofs.lemmas.List.{drop_more}
use Rattle.index_bench.proofs.get_all.Goals as goal

-- the next probe is the first of those that are left
pub loop-probe-preserved : goal.loop-probe-preserved
loop-probe-preserved c =
    rw c.found-value.ensures (rw (drop_more c.args.probes.now c.loop-probe.probe-index 0 c.loop-probe-test.true) at c.loop-probe.invariant)
