use Rattle.std.proofs.Common.{◌∙◌, sym, ap, arith, ◌||◌, ◌&&◌, not}
use Rattle.std.specs.Range.Bound.{bound_map}
use Rattle.std.specs.BTreeMap.Range.{range_contains}
use Rattle.std.specs.List.{remove}
use Rattle.leaf_array.specs.Cells.{is_nil}
use Rattle.leaf_array.proofs.RangeLemmas.{cleared_remove, cleared_keep, cleared_pairs, cleared_labels, retired_more, taken_remove, taken_all}
use Rattle.leaf_array.proofs.array.Array.remove_range.Goals as goal

pub loop-at-preserved-then-is_within : goal.loop-at-preserved-then-is_within
loop-at-preserved-then-is_within g c =
    let i = c.loop-at.invariant in
    let test = (range_contains g.K.Ord.cmp (bound_map (λ k. k.now) c.args.lo) (bound_map (λ k. k.now) c.args.hi)) in
    let lt = c.loop-at-test.true in
    rw c.bury.ensures (record {
      cleared = cleared_remove test c.loop-at.at c.args.self.now.pairs c.loop-at.self.pairs c.args.self.now.labels c.loop-at.self.labels (omega (arith, lt, c.len.ensures.count)) c.len.ensures.labels c.if-is_within.ensures i.cleared;
      tombstones = taken_remove test c.loop-at.at c.loop-at.self.pairs c.loop-at.self.labels c.loop-at.self.tombstones (omega (arith, lt, c.len.ensures.count)) c.len.ensures.labels c.if-is_within.ensures i.cleared.front ∙ i.tombstones;
      used = i.used;
      frozen = i.frozen;
      retired = ap (λ f. c.loop-at.self.retired || is_nil (remove c.loop-at.self.pairs c.loop-at.at) && not f) i.frozen
          ∙ retired_more test c.loop-at.at c.args.self.now.pairs c.loop-at.self.pairs c.args.self.now.labels c.loop-at.self.labels c.args.self.now.retired c.loop-at.self.retired c.args.self.now.frozen (omega (arith, lt, c.len.ensures.count)) i.cleared i.retired;
    })

pub loop-at-preserved : goal.loop-at-preserved
loop-at-preserved g c =
    let i = c.loop-at.invariant in
    let test = (range_contains g.K.Ord.cmp (bound_map (λ k. k.now) c.args.lo) (bound_map (λ k. k.now) c.args.hi)) in
    record {
      cleared = cleared_keep test c.loop-at.at c.args.self.now.pairs c.loop-at.self.pairs c.args.self.now.labels c.loop-at.self.labels (omega (arith, c.loop-at-test.true, c.len.ensures.count)) c.if-is_within.ensures i.cleared;
      tombstones = i.tombstones;
      used = i.used;
      frozen = i.frozen;
      retired = i.retired;
    }

pub returns-clause-pairs : goal.returns-clause-pairs
returns-clause-pairs g c = cleared_pairs (range_contains g.K.Ord.cmp (bound_map (λ k. k.now) c.args.lo) (bound_map (λ k. k.now) c.args.hi)) c.loop-at.at c.args.self.now.pairs c.loop-at.self.pairs c.args.self.now.labels c.loop-at.self.labels (omega (arith, c.loop-at-test.false, c.len.ensures.count)) c.loop-at.invariant.cleared

pub returns-clause-labels : goal.returns-clause-labels
returns-clause-labels g c = cleared_labels (range_contains g.K.Ord.cmp (bound_map (λ k. k.now) c.args.lo) (bound_map (λ k. k.now) c.args.hi)) c.loop-at.at c.args.self.now.pairs c.loop-at.self.pairs c.args.self.now.labels c.loop-at.self.labels (omega (arith, c.loop-at-test.false, c.len.ensures.count)) c.len.ensures.labels c.loop-at.invariant.cleared

pub returns-clause-tombstones : goal.returns-clause-tombstones
returns-clause-tombstones g c =
    sym (taken_all (range_contains g.K.Ord.cmp (bound_map (λ k. k.now) c.args.lo) (bound_map (λ k. k.now) c.args.hi)) c.loop-at.at c.args.self.now.pairs c.loop-at.self.pairs c.args.self.now.labels c.loop-at.self.labels c.loop-at.self.tombstones (omega (arith, c.loop-at-test.false, c.len.ensures.count)) c.loop-at.invariant.cleared)
    ∙ c.loop-at.invariant.tombstones
