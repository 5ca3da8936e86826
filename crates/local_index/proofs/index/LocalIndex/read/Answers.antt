use Rattle.std.proofs.Common.{ap, ◌∙◌}
use Rattle.serial_history.specs.Answers.{answer_to}
use Rattle.local_index.specs.State.{list_open}
use Rattle.local_index.proofs.index.LocalIndex.read.Goals as goal

pub returns-clause-read : goal.returns-clause-read
returns-clause-read g c =
    record {
      told = c.in_ok-told.ensures ∙ ap (λ p. answer_to g.K.Ord.cmp c.args.query (list_open c.args.self.now p)) c.place.ensures;
      recorded = c.in_ok-note.ensures.ok;
    }
