use Rattle.std.proofs.Common.{[], take, subst, rules}
use Rattle.std.specs.Io.KnownBytes.{Consumes}
use Rattle.std.proofs.lemmas.Result.{on_ok_weaker}
use Rattle.index_script.proofs.ByteLemmas.{serves-ends, serves-falters, serves-piece, serves-breaks, serves-runs_out}
use Rattle.index_script.proofs.run.serve.Goals as goal

pub returns-then-count-eq0 : goal.returns-then-count-eq0
returns-then-count-eq0 g c =
    let i = c.loop-read.invariant in
    let read = c.in-Ok-read.ensures.bytes in
    let none : Consumes (g.R.Read.remaining c.loop-read.reader) (g.R.Read.remaining c.read.new.self) [] =
    subst (λ n. Consumes (g.R.Read.remaining c.loop-read.reader) (g.R.Read.remaining c.read.new.self) (take n c.read.new.buf)) c.if-count-eq0.true read.0 in
    record {
      done = on_ok_weaker c.finish.result
          (serves-ends _ c.args.script.now c.loop-read.script _ (g.R.Read.remaining c.loop-read.reader) _ _ (g.W.Write.contents c.loop-read.writer) c.loop-read.begun i.served _ _ none (read.1 c.if-count-eq0.true (search rules)))
          c.finish.ensures.ok;
      read = search rules;
      write = λ e. serves-falters _ c.args.script.now c.loop-read.script _ (g.R.Read.remaining c.loop-read.reader) _ _ (g.W.Write.contents c.loop-read.writer) c.loop-read.begun i.served _ none (c.finish.ensures.write e);
      memory = search rules;
    }

pub returns-in-Err : goal.returns-in-Err
returns-in-Err g c =
    let i = c.loop-read.invariant in
    record {
      done = search rules;
      read = search rules;
      write = λ e. serves-breaks _ c.args.script.now c.loop-read.script _ (g.R.Read.remaining c.loop-read.reader) _ _ (g.W.Write.contents c.loop-read.writer) c.loop-read.begun i.served _ _ c.in-Ok-read.ensures.bytes.0 (c.feed.ensures.write (rw c.in-Err.is e));
      memory = λ e. serves-runs_out _ c.args.script.now c.loop-read.script _ (g.R.Read.remaining c.loop-read.reader) _ _ (g.W.Write.contents c.loop-read.writer) c.loop-read.begun i.served _ _ c.in-Ok-read.ensures.bytes.0 (c.feed.ensures.memory (rw c.in-Err.is e));
    }

pub loop-read-preserved : goal.loop-read-preserved
loop-read-preserved g c =
    let i = c.loop-read.invariant in
    record {
      served = serves-piece _ c.args.script.now c.loop-read.script _ (g.R.Read.remaining c.loop-read.reader) _ _ (g.W.Write.contents c.loop-read.writer) c.loop-read.begun i.served _ _ _ _ c.in-Ok-read.ensures.bytes.0 c.in_default-feed.ensures.ok;
      counted = search rules;
    }
