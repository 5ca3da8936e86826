use Rattle.std.proofs.Common.{◌≡◌, ◌≤◌, ◌+◌, ◌++◌, ℕ, List, length}
use Rattle.index_script.specs.Inside.{Feeds}
use Rattle.index_script.proofs.run.feed.Given as goal

-- the piece up to the rest was taken, one line at most for each byte
abbrev pub invariant-lines : goal.invariant-lines
invariant-lines g l =
    (done : List ℕ) × (l.piece ≡ done ++ l.rest) × (l.script.line ≤ l.fn.script.line + length done)
    × Feeds g.row.S l.fn.script l.fn.begun done (g.W.Write.contents l.fn.writer) (g.W.Write.contents l.writer) l.begun l.script

abbrev pub decreases-lines : goal.decreases-lines
decreases-lines g l = length l.rest
