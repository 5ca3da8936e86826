use Rattle.std.proofs.Common.{ap, ◌∙◌}
use Rattle.serial_history.specs.RemainingPairs.{remaining_pairs}
use Rattle.serial_history.proofs.RemainingPairsLemmas.{first_of, given_some, rest_of}
use Rattle.serial_history.proofs.scan.next.Goals as goal

pub returns-clause-first : goal.returns-clause-first
returns-clause-first g c = c.step.ensures.0 ∙ first_of g.K.Ord.cmp (g.C.PairCursor.cursor c.args.cursor.now) c.requires

pub returns-clause-left : goal.returns-clause-left
returns-clause-left g c = λ some.
    ap (remaining_pairs g.K.Ord.cmp) c.step.ensures.1
    ∙ rest_of g.K.Ord.cmp (g.C.PairCursor.cursor c.args.cursor.now) c.requires (given_some c.step.result _ c.step.ensures.0 some)
