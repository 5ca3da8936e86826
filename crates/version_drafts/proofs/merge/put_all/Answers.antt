use Rattle.std.proofs.Common.{◌++◌, [], append-nil, drop, length, refl, sym, ap, ◌∙◌, subst, arith}
use Rattle.leaf_array.specs.Pairs.{IsAscending}
use Rattle.version_drafts.specs.Changes.{apply_delta, pair_left}
use Rattle.version_drafts.specs.Cutting.{given_pairs}
use Rattle.version_drafts.proofs.CuttingLemmas.{counts_both, counts_same, cutting_same, filled_same, given_same}
use Rattle.version_drafts.proofs.MergeLemmas.{filled_then, head_of, length_first, none_of, rest_of_changes, rising_part, taken}
use Rattle.version_drafts.proofs.merge.put_all.Goals as goal

pub loop-changed-init : goal.loop-changed-init
loop-changed-init g c =
    let blocks = c.args.old.now in
    let out = c.expect.new.out in
    let e = c.in_ok-expect.ensures in
    record {
      whole = cutting_same blocks g.row.S c.args.out.now out e.row e.tail g.K.Ord.cmp c.requires.whole e.held;
      list = ap (λ ps. ps ++ apply_delta g.K.Ord.cmp c.args.changes.now []) (given_same blocks g.row.S c.args.out.now out e.row e.tail);
      filled = filled_same blocks g.row.S c.args.out.now out e.row e.tail _;
      counted = counts_same blocks g.row.S c.args.out.now out e.row e.tail e.length;
    }

pub put-requires-clause-rising : goal.put-requires-clause-rising
put-requires-clause-rising g c =
    let cmp = g.K.Ord.cmp in
    let i = c.loop-changed.invariant in
    let cs = c.loop-changed.changes in
    let k = c.in-Some.changed.now in
    let to = c.in-Some.to.now in
    let split = rest_of_changes g.met.K.Ord.total cs [] k to (head_of cs (k, to) c.in-Some.ensures) refl in
    rising_part cmp (given_pairs c.args.old.now c.loop-changed.out) (pair_left k to) (apply_delta cmp (drop 1 cs) []) (apply_delta cmp cs []) split (subst (IsAscending cmp) (sym i.list) c.requires.rising)

pub loop-changed-preserved : goal.loop-changed-preserved
loop-changed-preserved g c =
    let cmp = g.K.Ord.cmp in
    let blocks = c.args.old.now in
    let i = c.loop-changed.invariant in
    let cs = c.loop-changed.changes in
    let k = c.in-Some.changed.now in
    let to = c.in-Some.to.now in
    let first = head_of cs (k, to) c.in-Some.ensures in
    let split = rest_of_changes g.met.K.Ord.total cs [] k to first refl ∙ ap (λ xs. pair_left k to ++ apply_delta cmp xs []) (sym c.step.ensures) in
    let e = c.in_ok-put.ensures in
    let long = length_first cs [] _ first in
    let next = ap length c.step.ensures in
    record {
      whole = e.whole;
      list = taken (given_pairs blocks c.loop-changed.out) (given_pairs blocks c.put.new.out) (pair_left k to) (apply_delta cmp c.step.new.self []) (apply_delta cmp cs []) e.pairs split ∙ i.list;
      filled = filled_then g.row.S _ (length cs) _ _ _ _ i.filled (record { spent = (let x = e.filled.spent in omega (arith, x, long, next)); some = e.filled.some; none = e.filled.none });
      counted = counts_both blocks c.args.out.now c.loop-changed.out c.put.new.out i.counted e.counted;
    }

pub returns-clause-list : goal.returns-clause-list
returns-clause-list g c =
    let cmp = g.K.Ord.cmp in
    let i = c.loop-changed.invariant in
    let given' = given_pairs c.args.old.now c.loop-changed.out in
    let none = none_of c.loop-changed.changes c.in_default.ensures in
    sym (append-nil given') ∙ (sym (ap (λ cs. given' ++ apply_delta cmp cs []) none) ∙ i.list)
