use Rattle.std.proofs.Common.{[], ap, length, arith}
use Rattle.std.proofs.lemmas.Result.{on_ok_weaker}
use Rattle.version_drafts.proofs.ShelfLemmas.{takes_after}
use Rattle.version_drafts.proofs.shelving.make_room.Goals as goal

pub returns-clause-closed : goal.returns-clause-closed
returns-clause-closed g c =
    on_ok_weaker c.reserve_keys.result
    (λ same blocks ends h.
    let closed = c.in_ok-close_full.ensures.closed blocks ends h in
    takes_after blocks ends [] 0 c.args.out.now c.close_full.new.out c.reserve_keys.new.out closed (same blocks ends closed.whole))
    c.reserve_keys.ensures.same

pub returns-clause-room : goal.returns-clause-room
returns-clause-room g c =
    on_ok_weaker c.reserve_keys.result (λ keys. let size = ap length keys in omega (arith, size, c.in_ok-close_full.ensures.room)) c.reserve_keys.ensures.keys
