use Rattle.std.proofs.Common.{◌≤◌, ◌*◌}
use Rattle.index_script.specs.Inside.{TakesAllRead}
use Rattle.index_script.proofs.run.serve.Given as goal

-- what was read was taken, one line at most for each byte
abbrev pub invariant-loop-read : goal.invariant-loop-read
invariant-loop-read g l = record {
  served : TakesAllRead g.row.S l.fn.script (g.R.Read.remaining l.fn.reader) (g.R.Read.remaining l.reader) (g.W.Write.contents l.fn.writer) (g.W.Write.contents l.writer) l.begun l.script;
  counted : l.script.line ≤ l.read * 4096;
}
