use Rattle.std.proofs.Common.{refl, sym, ◌∙◌}
use Rattle.serial_history.specs.RemainingPairs.{remaining_of}
use Rattle.serial_history.proofs.PartLemmas.{begins, full_given, left_at_first, part_given, rest_of, too_many}
use Rattle.serial_history.proofs.scan.matches.Goals as goal

pub returns-then-is_over : goal.returns-then-is_over
returns-then-is_over g c = (λ t. absurd cc, λ same. absurd (too_many c.args.part c.args.told.now _ (sym c.if-is_over.ensures) same))

pub returns-then-not-gives : goal.returns-then-not-gives
returns-then-not-gives g c = (
  λ t. absurd cc,
  λ same. absurd (c.if-not-gives.ensures.differs (rest_of c.args.part _) (begins c.args.part c.args.told.now _ same ∙ sym (left_at_first g.met.K.Ord.total c.args.part (g.C.PairCursor.cursor c.args.cursor) c.requires.start))),
)

pub returns-then-has_room : goal.returns-then-has_room
returns-then-has_room g c =
    part_given c.args.part c.args.told.now (remaining_of g.K.Ord.cmp c.args.part (g.C.PairCursor.cursor c.gives.new.cursor)) _ c.give.result c.is_none.result
    (c.if-not-gives.ensures.given refl ∙ left_at_first g.met.K.Ord.total c.args.part (g.C.PairCursor.cursor c.args.cursor) c.requires.start)
    c.is_none.ensures c.give.ensures.first (sym c.if-is_over.ensures) (sym c.if-has_room.ensures)

pub returns : goal.returns
returns g c = (
  λ t. full_given c.args.part c.args.told.now (remaining_of g.K.Ord.cmp c.args.part (g.C.PairCursor.cursor c.gives.new.cursor)) _
      (c.if-not-gives.ensures.given refl ∙ left_at_first g.met.K.Ord.total c.args.part (g.C.PairCursor.cursor c.args.cursor) c.requires.start)
      (sym c.if-is_over.ensures) (sym c.if-has_room.ensures),
  λ same. refl,
)
