use Rattle.std.proofs.Common.{◌≡◌, ◌-◌, ◌++◌, ℕ, drop, length, take, sym, ap, ◌∙◌}
use Rattle.std.proofs.Math.Seq.{take-length}
use Rattle.std.proofs.lemmas.List.{length-drop, take-append-drop}
use Rattle.std.specs.Ordering.{nat_cmp}
use Rattle.leaf_array.proofs.PackLemmas.{sorted_take}
use Rattle.tree_index.specs.Cursor.{unread}
use Rattle.tree_tests.proofs.RunLemmas.{rest_of}
use Rattle.tree_tests.proofs.tree.each_call.push_runs.Goals as goal

pub push_run-requires-clause-rising : goal.push_run-requires-clause-rising
push_run-requires-clause-rising c = rw (c.requires.empty, c.requires.first) (sorted_take nat_cmp c.min-few.result c.args.source.now.pairs c.len-len.ensures.rising)

pub push_run-requires-2-clause-rising : goal.push_run-requires-2-clause-rising
push_run-requires-2-clause-rising c =
    let pairs = c.args.source.now.pairs in
    let few = c.min-few.result in
    let front = c.in-Ok.ensures.pushed ∙ ap (λ ps. ps ++ take few (unread c.args.cursor.now)) c.requires.empty ∙ ap (take few) c.requires.first in
    let behind = ap unread c.in-Ok.ensures.passed ∙ rest_of few c.args.cursor.now ∙ ap (drop few) c.requires.first in
    let rest : length (drop few pairs) ≡ c.len-len.result - few = length-drop few pairs ∙ ap (λ (n : ℕ). n - few) (sym c.len-len.ensures.count) in
    let all : take (c.len-len.result - few) (drop few pairs) ≡ drop few pairs = ap (λ (n : ℕ). take n (drop few pairs)) (sym rest) ∙ take-length (drop few pairs) in
    rw (front, behind, all, take-append-drop few pairs) c.len-len.ensures.rising
