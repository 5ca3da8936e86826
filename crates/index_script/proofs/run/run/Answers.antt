use Rattle.std.proofs.Common.{rules}
use Rattle.index_script.proofs.ByteLemmas.{stops-at_once}
use Rattle.index_script.proofs.run.run.Goals as goal

pub returns-in_default : goal.returns-in_default
returns-in_default g c = record { done = search rules; read = search rules; write = search rules; memory = λ e. stops-at_once _ _ _ _ }
