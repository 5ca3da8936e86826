use Rattle.std.proofs.Common.{◌≡◌, ◌∙◌, ℕ, take, ap, arith}
use Rattle.std.proofs.Math.Seq.{take-length}
use Rattle.tree_index.specs.Cursor.{unread}
use Rattle.version_tests.proofs.listed.push_run.Goals as goal

pub push_run-requires-clause-within : goal.push_run-requires-clause-within
push_run-requires-clause-within c = rw c.requires.first (omega (arith, c.len.ensures.count))

pub push_run-requires-clause-rising : goal.push_run-requires-clause-rising
push_run-requires-clause-rising c =
    let pairs = c.args.tree.now.pairs in
    let all : take c.len.result (unread c.args.cursor.now) ≡ pairs = ap (take c.len.result) c.requires.first ∙ ap (λ (n : ℕ). take n pairs) c.len.ensures.count ∙ take-length pairs in
    rw (c.requires.empty, all) c.len.ensures.rising

pub push_run-requires-clause-room : goal.push_run-requires-clause-room
push_run-requires-clause-room c = rw c.requires.empty (omega (arith, c.requires.few, c.len.ensures.count))
