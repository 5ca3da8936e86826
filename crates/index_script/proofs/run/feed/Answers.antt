use Rattle.std.proofs.Common.{◌++◌, ◌∷◌, [], arith, length-append}
use Rattle.std.proofs.KnownBytes.{Appends-nil}
use Rattle.index_script.proofs.ByteLemmas.{Feeds-line, Feeds-part, Feeds-breaks, Feeds-stops, regroup}
use Rattle.index_script.proofs.run.feed.Goals as goal

pub returns-in-Err-clause-write : goal.returns-in-Err-clause-write
returns-in-Err-clause-write g c = λ e.
    let i = c.lines.invariant in
    let cut = c.in-Some.ensures.some in
    Feeds-breaks _ c.args.script.now c.lines.script c.args.begun.now c.lines.begun _ (g.W.Write.contents c.lines.writer) _ c.args.piece.now i.0 _ c.in-Some.part.now c.in-Some.behind.now i.3 i.1 cut.0 cut.1
    (c.end_line.ensures.write (rw c.in-Err.is e))

pub returns-in-Err-clause-memory : goal.returns-in-Err-clause-memory
returns-in-Err-clause-memory g c = λ e.
    let i = c.lines.invariant in
    Feeds-stops _ c.args.script.now c.lines.script c.args.begun.now c.lines.begun _ (g.W.Write.contents c.lines.writer) _ c.args.piece.now i.0 _ i.3 i.1
    (c.end_line.ensures.memory (rw c.in-Err.is e))

pub lines-preserved : goal.lines-preserved
lines-preserved g c =
    let i = c.lines.invariant in
    let cut = c.in-Some.ensures.some in
    let done = i.0 ++ (c.in-Some.part.now ++ 10 ∷ []) in (
      done,
      regroup c.args.piece.now i.0 _ c.in-Some.part.now c.in-Some.behind.now i.1 cut.0,
      omega (arith, c.in_default-end_line.ensures.counted, i.2, length-append i.0 (c.in-Some.part.now ++ 10 ∷ []), length-append c.in-Some.part.now (10 ∷ [])),
      Feeds-line _ c.args.script.now c.lines.script c.end_line.new.script c.args.begun.now c.lines.begun c.end_line.new.begun _ (g.W.Write.contents c.lines.writer) _ i.0 c.in-Some.part.now i.3 cut.1
          c.in_default-end_line.ensures.ok c.in_default-end_line.ensures.begun,
    )

pub returns-clause-ok : goal.returns-clause-ok
returns-clause-ok g c =
    let i = c.lines.invariant in
    Feeds-part _ c.args.script.now c.lines.script c.args.begun.now c.lines.begun c.extend.new.self _ (g.W.Write.contents c.lines.writer) c.args.piece.now i.0 _ i.3 i.1 c.in_default.ensures.none c.in-Ok.ensures

pub returns-in_default-extend-clause-memory : goal.returns-in_default-extend-clause-memory
returns-in_default-extend-clause-memory g c = λ e.
    let i = c.lines.invariant in
    Feeds-stops _ c.args.script.now c.lines.script c.args.begun.now c.lines.begun _ (g.W.Write.contents c.lines.writer) _ c.args.piece.now i.0 _ i.3 i.1 (Appends-nil _)
