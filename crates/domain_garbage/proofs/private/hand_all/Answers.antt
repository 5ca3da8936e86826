use Rattle.std.proofs.Common.{◌≡◌, ap, ◌∙◌, length, arith}
use Rattle.atomic_table.specs.Table.{Me}
use Rattle.domain_table.specs.declared.board.Acting.{Acting}
use Rattle.domain_table.proofs.HandOvers.{hands_all}
use Rattle.domain_garbage.proofs.Keeping.{long_taken}
use Rattle.domain_garbage.proofs.private.hand_all.Goals as goal

pub load-requires : goal.load-requires
load-requires g c = let t = c.requires.table in let room = t.4 in let seat = c.args.seat.now in (t.0, omega arith, hands_all _ _ c.args.place.words.now.key c.args.place.words.now.table_id.slots seat.id 1 seat.me c.requires.ready.0 c.requires.ready.1)

pub take_over-requires-clause-taken : goal.take_over-requires-clause-taken
take_over-requires-clause-taken g c = let m = c.args.seat.now.me in (m.0.collected, m.0.waits, ap (λ (z : Me _ Acting). z.0.waits) c.load.ensures.2, c.requires.kept.chain, c.requires.kept.below, c.requires.waits)

pub returns-clause-handed : goal.returns-clause-handed
returns-clause-handed g c = let m = c.args.seat.now.me in let l = c.load.ensures.2 in let w = c.take_over.ensures.waits in
    (w.0, w.1 ∙ (ap (λ (z : Me _ Acting). length z.0.waits) l ∙ long_taken m.0.collected m.0.waits), w.3 ∙ λ j. (record (l j).0 { waits = w.0 }, (l j).1))
