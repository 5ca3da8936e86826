use Rattle.std.proofs.Common.{◌≡◌, ◌+◌, ◌-◌, ◌<◌, ◌≤◌, [], List, ℕ, get_or, length, sym, ap, ◌∙◌, subst, arith}
use Rattle.version_views.specs.Rows.{between, end_of, start_of}
use Rattle.version_drafts.specs.Shelves.{HasRoom, TakesMore}
use Rattle.version_drafts.proofs.ShelfLemmas.{between_join, start_behind, takes_after, takes_next}
use Rattle.version_drafts.proofs.StretchLemmas.{between_none}
use Rattle.version_drafts.proofs.shelving.put_rows.Goals as goal

pub loop-row-init : goal.loop-row-init
loop-row-init g c =
    let blocks = c.args.old.now in
    let ends = c.args.rows.now.ends.items in
    let first = c.args.first in
    let out = c.reserve_rows.new.out in
    let closed = c.in_ok-close.ensures.closed blocks ends c.requires.whole in
    let same = c.in_ok-reserve_rows.ensures.same blocks ends closed.whole in
    let start = c.start_of-at.ensures in
    let up = c.requires.rows.rising first c.requires.inside in
    let none = takes_after blocks ends [] 0 c.args.out.now c.close.new.out out closed same in
    record {
      begins = omega arith;
      inside = omega (arith, c.requires.inside);
      at = start;
      more = omega (arith, start);
      within = omega (arith, start, up, c.requires.some);
      taken = subst (λ n. TakesMore blocks ends (between (start_of ends first) n blocks) 0 c.args.out.now out) (sym start) (subst (λ bs. TakesMore blocks ends bs 0 c.args.out.now out) (sym (between_none blocks (start_of ends first))) none);
      none = c.in_ok-reserve_rows.ensures.keys ∙ c.in_ok-close.ensures.none;
      room = subst (λ (es : List ℕ). HasRoom (length es - first) out) c.ends-ends.ensures c.in_ok-reserve_rows.ensures.room;
    }

-- a row more
pub loop-row-preserved : goal.loop-row-preserved
loop-row-preserved g c =
    let i = c.loop-row.invariant in
    let blocks = c.args.old.now in
    let ends = c.args.rows.now.ends.items in
    let first = c.args.first in
    let row = c.loop-row.row in
    let at = c.loop-row.at in
    let end = get_or c.ends-ends.result.now row 0 in
    let is : end ≡ end_of ends row = ap (λ (es : List ℕ). get_or es row 0) c.ends-ends.ensures in
    let long = ap length c.ends-ends.ensures in
    let inside : row < length ends = omega (arith, c.loop-row-test.true, long) in
    let up = c.requires.rows.rising row inside in
    let begins = i.begins in
    let more = i.more in
    let here = i.at in
    let front : start_of ends first + (row - first) ≤ at = more in
    let e = c.in_ok-put_row.ensures in
    let both = takes_next blocks ends (between (start_of ends first) at blocks) (between at end blocks) c.args.out.now c.loop-row.out c.put_row.new.out i.taken e.taken in
    record {
      begins = omega (arith, begins);
      inside = omega (arith, inside);
      at = is ∙ start_behind ends row;
      more = omega (arith, begins, more, here, up, is);
      within = c.if-ends-row.true;
      taken = subst (λ bs. TakesMore blocks ends bs 0 c.args.out.now c.put_row.new.out) (between_join blocks (start_of ends first) at end (omega (arith, more)) (omega (arith, here, up, is))) both;
      none = e.none;
      room = e.room (length ends - (row + 1)) (subst (λ n. HasRoom n c.loop-row.out) (rest inside) i.room);
    }
  where
    rest : {n row : ℕ} → row < n → n - row ≡ n - (row + 1) + 1
    rest h = omega (arith, h)
