use Rattle.domain_table.proofs.PlacedLemmas.{has_placed}
use Rattle.domain_table.proofs.placing.place_made.Goals as goal

pub returns-in-Some-clause-placed : goal.returns-in-Some-clause-placed
returns-in-Some-clause-placed g c = let p = c.place_at.ensures.placed in let claimed = c.in-Some.ensures.claimed in
    (c.make-item.result, c.make-item.ensures, has_placed g.H.Holding.holds p.0 c.in-Some.slot p.1 c.args.seat.now.me c.claim_any.new.seat.me c.place_at.new.seat.me c.requires.ready.3 claimed.1 p.3 c.make-item.result c.args.place.sizes.now.slots c.place_at.result.part.life.id c.place_at.result.part.seen.value claimed.0 p.2 c.place_at.ensures.value)
