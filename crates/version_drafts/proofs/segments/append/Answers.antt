use Rattle.std.proofs.Common.{◌≡◌, ℕ, ◌++◌, take, sym, ap, ◌∙◌, subst}
use Rattle.std.proofs.Math.Seq.{take-length}
use Rattle.leaf_array.specs.Pairs.{IsAscending}
use Rattle.version_drafts.proofs.segments.append.Goals as goal

pub push_run-requires-clause-rising : goal.push_run-requires-clause-rising
push_run-requires-clause-rising g c =
    let tree = c.args.tree.now.pairs in
    let all : take c.len.result c.new-left.result ≡ tree = ap (take c.len.result) c.new-left.ensures ∙ ap (λ (n : ℕ). take n tree) c.len.ensures.count ∙ take-length tree in
    subst (λ ps. IsAscending g.K.Ord.cmp (c.args.into.now.pairs ++ ps)) (sym all) c.requires.rising

pub returns : goal.returns
returns g c =
    let tree = c.args.tree.now.pairs in
    let all : take c.len.result c.new-left.result ≡ tree = ap (take c.len.result) c.new-left.ensures ∙ ap (λ (n : ℕ). take n tree) c.len.ensures.count ∙ take-length tree in
    c.in_ok-push_run.ensures.pushed ∙ ap (λ ps. c.args.into.now.pairs ++ ps) all
