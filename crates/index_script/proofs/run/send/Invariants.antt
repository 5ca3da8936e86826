use Rattle.std.proofs.Common.{◌≤◌, ◌-◌, length, take}
use Rattle.std.specs.Io.KnownBytes.{Appends}
use Rattle.index_script.proofs.run.send.Given as goal

-- a beginning was written
abbrev pub invariant-sending : goal.invariant-sending
invariant-sending g l = record {
  within : l.at ≤ length l.bytes;
  written : Appends (g.W.Write.contents l.fn.writer) (g.W.Write.contents l.writer) (take l.at l.bytes);
}

abbrev pub decreases-sending : goal.decreases-sending
decreases-sending g l = length l.bytes - l.at
