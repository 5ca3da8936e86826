use Rattle.std.proofs.lemmas.Result.{IfErr-weaker}
use Rattle.serial_history.specs.Serial.{RefusesCheckpoint}
use Rattle.shared_index.specs.Books.{LiesOutside}
use Rattle.shared_index.proofs.BookLemmas.{lies_outside}
use Rattle.shared_index.proofs.index.SharedIndex.checkpoint.Goals as goal

pub returns : goal.returns
returns g c = record { refused = IfErr-weaker c.checkpoint-told.result (RefusesCheckpoint c.deref_mut.result.now.base c.deref_mut.result.now.history c.args.upto) (LiesOutside c.args.upto) (lies_outside c.deref_mut.result.now.base c.deref_mut.result.now.history c.args.upto) c.checkpoint-told.ensures.refused }
