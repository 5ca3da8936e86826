use Rattle.std.proofs.Common.{◌≡◌, ◌∙◌, ℕ, take, ap, arith}
use Rattle.std.proofs.Math.Seq.{take-length}
use Rattle.tree_index.specs.Cursor.{unread}
use Rattle.tree_tests.proofs.tree.each_call.push_run.Goals as goal

pub push_run-requires-clause-within : goal.push_run-requires-clause-within
push_run-requires-clause-within c = rw c.requires.first (omega (arith, c.len.ensures.count))

pub push_run-requires-clause-rising : goal.push_run-requires-clause-rising
push_run-requires-clause-rising c =
    let pairs = c.args.source.now.pairs in
    let all : take c.len.result (unread c.args.cursor.now) ≡ pairs = ap (take c.len.result) c.requires.first ∙ ap (λ (n : ℕ). take n pairs) c.len.ensures.count ∙ take-length pairs in
    rw (c.requires.empty, all) c.len.ensures.rising
