use Rattle.std.proofs.Common.{◌≤◌, refl, sym, subst, arith}
use Rattle.version_views.specs.Rows.{between, start_of}
use Rattle.version_drafts.specs.Shelves.{HasPlace, TakesMore}
use Rattle.version_drafts.proofs.ShelfLemmas.{begun_place, between_join, next_place, takes_next}
use Rattle.version_drafts.proofs.shelving.put_stretch.Goals as goal

-- whole rows more
pub loop-at-preserved-then-takes_whole : goal.loop-at-preserved-then-takes_whole
loop-at-preserved-then-takes_whole g c =
    let i = c.loop-at.invariant in
    let blocks = c.args.old.now in
    let ends = c.args.rows.now.ends.items in
    let from = c.args.from in
    let at = c.loop-at.at in
    let next = c.in_ok-row.row in
    let out = c.args.out.now in
    let whole = c.if-takes_whole.ensures refl in
    let e = c.in_ok-row.ensures in
    let begins = i.begins in
    let more = e.more in
    let within = e.within in
    let start = c.start_of-at.ensures in
    let rows : TakesMore blocks ends (between at (start_of ends next) blocks) 0 c.loop-at.out c.put_rows.new.out = subst (λ n. TakesMore blocks ends (between n (start_of ends next) blocks) 0 c.loop-at.out c.put_rows.new.out) (sym whole.begins) e.taken in
    let both = takes_next blocks ends (between from at blocks) (between at (start_of ends next) blocks) out c.loop-at.out c.put_rows.new.out i.taken rows in
    let up : at ≤ start_of ends next = omega (arith, more, whole.begins) in
    record {
      begins = omega (arith, begins, up, start);
      within = omega (arith, within, start);
      taken = subst (λ n. TakesMore blocks ends (between from n blocks) 0 out c.put_rows.new.out) (sym start) (subst (λ bs. TakesMore blocks ends bs 0 out c.put_rows.new.out) (between_join blocks from at (start_of ends next) begins up) both);
      next = λ less. subst (HasPlace ends next) (sym start) (begun_place blocks c.args.rows.now c.requires.rows next c.args.upto e.inside (omega (arith, less, start)) c.requires.within);
    }

-- what lies in a row more
pub loop-at-preserved : goal.loop-at-preserved
loop-at-preserved g c =
    let i = c.loop-at.invariant in
    let blocks = c.args.old.now in
    let ends = c.args.rows.now.ends.items in
    let from = c.args.from in
    let at = c.loop-at.at in
    let end = c.end_in-end.result in
    let e = c.end_in-end.ensures in
    let here = i.next c.loop-at-test.true in
    let begins = i.begins in
    let some = e.some at c.loop-at-test.true here.stops in
    let pieces = c.in_ok-put_pieces.ensures ends (record { row = c.loop-at.row; inside = here.inside; begins = here.begins; some = some; stops = e.stops }) i.taken.whole in
    let both = takes_next blocks ends (between from at blocks) (between at end blocks) c.args.out.now c.loop-at.out c.put_pieces.new.out i.taken pieces in
    record {
      begins = omega (arith, begins, some);
      within = e.within;
      taken = subst (λ bs. TakesMore blocks ends bs 0 c.args.out.now c.put_pieces.new.out) (between_join blocks from at end begins (omega (arith, some))) both;
      next = λ less. next_place blocks c.args.rows.now c.requires.rows c.loop-at.row end c.args.upto here.inside (e.all less) less c.requires.within;
    }
