use Rattle.std.proofs.Common.{sym, ◌∙◌}
use Rattle.leaf_slots.proofs.PlaceLemmas.{room_for_gap}
use Rattle.leaf_slots.proofs.row.bury.LinkBury.bury.Goals as goal

-- the place that comes to the front was the next one, and the gaps of both lie below its rank
pub widen-requires : goal.widen-requires
widen-requires g c =
    room_for_gap c.args.at c.in-Live.slot c.in-Live.gap c.in-Live.key c.in-Live.value (g.R.Bury.places c.args.self.now.rest) c.sink.new.hole (g.R.Bury.places c.sink.new.self) c.args.self.now.head
    (sym c.replace.ensures.value ∙ c.in-Live.is) c.if-at-gt0.false c.requires.rank c.sink.ensures
