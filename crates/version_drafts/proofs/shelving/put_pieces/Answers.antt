use Rattle.std.proofs.Common.{◌≡◌, subst, arith}
use Rattle.version_views.specs.Rows.{between}
use Rattle.version_drafts.specs.Shelves.{LiesInRow, TakesMore}
use Rattle.version_drafts.proofs.ShelfLemmas.{between_join, takes_after, takes_next}
use Rattle.version_drafts.proofs.shelving.put_pieces.Goals as goal

-- a piece more
pub loop-at-preserved : goal.loop-at-preserved
loop-at-preserved g c =
    let i = c.loop-at.invariant in
    let blocks = c.args.old.now in
    let from = c.args.from in
    let at = c.loop-at.at in
    let end = c.piece_end-end.result in
    let e = c.piece_end-end.ensures in
    let begins = i.begins in
    let some = e.some in
    let within = e.within in
    record {
      begins = omega (arith, begins, some);
      within = within;
      taken = λ ends in_row h.
          let first = i.taken ends in_row h in
          let room = c.in_ok-make_room.ensures.closed blocks ends first.whole in
          let front = in_row.begins in
          let rear = in_row.stops in
          let lies : LiesInRow ends at end = record { row = in_row.row; inside = in_row.inside; begins = omega (arith, front, begins); some = some; stops = omega (arith, within, rear) } in
          let piece = c.in_ok-put_piece.ensures ends lies room.whole in
          let both = takes_next blocks ends (between from at blocks) (between at end blocks) c.args.out.now c.loop-at.out c.put_piece.new.out first (takes_after blocks ends (between at end blocks) 0 c.loop-at.out c.make_room.new.out c.put_piece.new.out room piece) in
          subst (λ bs. TakesMore blocks ends bs 0 c.args.out.now c.put_piece.new.out) (between_join blocks from at end begins (omega (arith, some))) both;
    }

pub returns : goal.returns
returns g c = λ ends in_row h.
    let i = c.loop-at.invariant in
    let within = i.within in
    let all = c.loop-at-test.false in
    let at : c.loop-at.at ≡ c.args.upto = omega (arith, within, all) in
    subst (λ n. TakesMore c.args.old.now ends (between c.args.from n c.args.old.now) 0 c.args.out.now c.loop-at.out) at (i.taken ends in_row h)
