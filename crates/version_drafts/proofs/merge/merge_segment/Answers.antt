use Rattle.std.proofs.Common.{◌≡◌, ℕ, not, cond, ◌++◌, ◌+◌, ◌≤◌, ◌<◌, List, Some, inl, inr, drop, length, sym, ap, ◌∙◌, subst, arith}
use Rattle.std.proofs.lemmas.Bool.{false≢true}
use Rattle.leaf_array.specs.Pairs.{IsAscending}
use Rattle.tree_index.proofs.WayLemmas.{some_same}
use Rattle.version_drafts.specs.Changes.{apply_delta}
use Rattle.version_views.specs.Cuts.{pairs_in}
use Rattle.version_drafts.specs.Cutting.{IsReachedBy, given_pairs}
use Rattle.version_drafts.proofs.CuttingLemmas.{counts_on, counts_same, cutting_same, filled_same, given_same}
use Rattle.version_drafts.proofs.MergeLemmas.{filled_none, filled_then, never_reached}
use Rattle.version_views.proofs.ChangeScanLemmas.{block_at}
use Rattle.version_drafts.specs.Gone.{is_gone, without_gone}
use Rattle.version_views.proofs.FilterLemmas.{on_test, rising_kept}
use Rattle.std.proofs.lemmas.List.Elements.{filter-append}
use Rattle.version_drafts.proofs.merge.merge_segment.Goals as goal

pub loop-more-init : goal.loop-more-init
loop-more-init g c =
    let cmp = g.K.Ord.cmp in
    let blocks = c.args.old.now in
    let gone = c.args.gone.now in
    let test = λ (k : g.row.K.Denot). not (is_gone cmp gone k) in
    let rest = without_gone cmp gone (pairs_in (drop (c.args.here.now.place + 1) blocks)) in
    let b = c.args.here.now.tree.now.pairs in
    let whole : c.new-pairs.result ++ rest ≡ without_gone cmp gone (pairs_in (drop c.args.here.now.place blocks)) = ap (λ ps. ps ++ rest) c.new-pairs.ensures ∙ (sym (filter-append (λ p. test p.0) b (pairs_in (drop (c.args.here.now.place + 1) blocks))) ∙ ap (without_gone cmp gone) (sym (block_at c.args.here.now.place blocks b c.requires.there))) in
    let block : (b : List (g.row.K.Denot × g.row.V.Denot)) → Some b ≡ _ → without_gone cmp gone b ≡ c.new-pairs.result = λ b e. ap (without_gone cmp gone) (some_same (e ∙ sym c.requires.there)) ∙ sym c.new-pairs.ensures in
    let e = c.in_ok-make_ready.ensures in
    let e' = c.count_out.ensures in
    let row = e.row ∙ e'.row in
    let tail = e.tail ∙ e'.tail in
    let out = c.make_ready.new.out in
    record {
      whole = cutting_same blocks g.row.S c.args.out.now out row tail cmp c.requires.whole (e.held ∙ e'.held);
      list = ap (λ ps. given_pairs blocks out ++ apply_delta cmp c.args.changes.now ps) whole ∙ ap (λ ps. ps ++ apply_delta cmp c.args.changes.now (without_gone cmp gone (pairs_in (drop c.args.here.now.place blocks)))) (given_same blocks g.row.S c.args.out.now out row tail);
      sorted = subst (IsAscending cmp) (sym whole) (rising_kept cmp test (pairs_in (drop c.args.here.now.place blocks)) c.requires.sorted);
      filled = λ b here. filled_then g.row.S _ _ _ c.args.out.now out out (filled_same blocks g.row.S c.args.out.now out row tail _) (filled_none g.row.S _ _ out (let same = ap length (block b here) in omega (arith, same)));
      fewer = omega arith;
      reached = λ b e h. inl (subst (IsReachedBy cmp c.args.changes.now) (block b e) h);
      done = λ e. absurd (false≢true (sym e));
      counted = counts_on blocks (c.args.here.now.place + 1) c.count_out.new.out out e'.counted (counts_same blocks g.row.S c.count_out.new.out out e.row e.tail e.length);
    }

pub loop-more-preserved : goal.loop-more-preserved
loop-more-preserved g c =
    let i = c.loop-more.invariant in
    let e = c.in_ok-more.ensures in
    record {
      whole = e.whole;
      list = e.list ∙ i.list;
      sorted = e.sorted;
      filled = λ b there. filled_then g.row.S _ _ _ _ _ _ (i.filled b there) e.filled;
      fewer = (let x = i.fewer in let y = e.less in omega (arith, x, y));
      reached = λ b there h. elim (i.reached b there h) [
        | inl r ↦ elim (e.reached r) [
          | inl s ↦ inl s
          | inr less ↦ let x = i.fewer in inr (omega (arith, x, less))
        ]
        | inr less ↦ let y = e.less in inr (omega (arith, less, y))
      ];
      done = e.done;
      counted = counts_on c.args.old.now (c.args.here.now.place + 1) c.loop-more.out c.merge_more.new.out i.counted e.counted;
    }

pub loop-more-smaller : goal.loop-more-smaller
loop-more-smaller g c =
    let e = c.in_ok-more.ensures in
    let before = length c.loop-more.changes + length c.loop-more.pairs in
    let after = length c.merge_more.new.changes + length c.merge_more.new.pairs in
    let more : ◌≡◌ {A = ℕ} (cond c.loop-more.more 1 0) 1 = ap (λ b. cond {A = ℕ} b 1 0) c.loop-more-test.true in
    let smaller : cond {A = ℕ} c.in_ok-more.more 1 0 + after < cond {A = ℕ} c.loop-more.more 1 0 + before =
    on_test c.in_ok-more.more
    (λ t. let less : after < before = e.fewer t in let one : ◌≡◌ {A = ℕ} (cond c.in_ok-more.more 1 0) 1 = ap (λ b. cond {A = ℕ} b 1 0) t in omega (arith, less, one, more))
    (λ f. let none : length c.merge_more.new.pairs ≡ 0 = ap length (e.done f) in let less : length c.merge_more.new.changes ≤ length c.loop-more.changes = e.less in let zero' : ◌≡◌ {A = ℕ} (cond c.in_ok-more.more 1 0) 0 = ap (λ b. cond {A = ℕ} b 1 0) f in omega (arith, none, less, zero', more)) in
    smaller

pub returns-clause-filled : goal.returns-clause-filled
returns-clause-filled g c = λ b there.
    let f = c.loop-more.invariant.filled b there in
    let none = ap length (c.loop-more.invariant.done c.loop-more-test.false) in
    record { spent = (let x = f.spent in omega (arith, x, none)); some = f.some; none = f.none }

pub returns-clause-reached : goal.returns-clause-reached
returns-clause-reached g c = λ b there h.
    let i = c.loop-more.invariant in
    elim (i.reached b there h) [
      | inl r ↦ absurd (never_reached g.K.Ord.cmp _ _ (i.done c.loop-more-test.false) r)
      | inr less ↦ less
    ]
