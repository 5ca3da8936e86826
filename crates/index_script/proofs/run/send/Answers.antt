use Rattle.std.proofs.Common.{rules}
use Rattle.index_script.proofs.ByteLemmas.{Appends-next}
use Rattle.index_script.proofs.run.send.Goals as goal

pub sending-preserved : goal.sending-preserved
sending-preserved g c = record {
  within = search rules;
  written = Appends-next _ _ _ c.args.bytes.now c.sending.at c.in-Ok.count c.sending.invariant.written c.in-Ok.ensures.bytes;
}
