use Rattle.std.proofs.Common.{ap, ◌∙◌}
use Rattle.serial_history.specs.RemainingPairs.{remaining_back}
use Rattle.serial_history.proofs.RemainingBackLemmas.{last_of, rest_back_of}
use Rattle.serial_history.proofs.RemainingPairsLemmas.{given_some}
use Rattle.serial_history.proofs.scan.next_back.Goals as goal

pub returns-clause-first : goal.returns-clause-first
returns-clause-first g c = c.step_back.ensures.0 ∙ last_of g.K.Ord.cmp (g.C.PairCursor.cursor c.args.cursor.now) c.requires

pub returns-clause-left : goal.returns-clause-left
returns-clause-left g c = λ some.
    ap (remaining_back g.K.Ord.cmp) c.step_back.ensures.1
    ∙ rest_back_of g.K.Ord.cmp (g.C.PairCursor.cursor c.args.cursor.now) c.requires (given_some c.step_back.result _ c.step_back.ensures.0 some)
