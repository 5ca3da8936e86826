use Rattle.std.proofs.Common.{subst}
use Rattle.index_script.specs.Lines.{Lacks}
use Rattle.index_script.proofs.NumberLemmas.{not_lacking}
use Rattle.index_script.proofs.request.only_number.Goals as goal

pub returns-in-Some-clause-err : goal.returns-in-Some-clause-err
returns-in-Some-clause-err c = λ lacks. not_lacking 32 c.in-Some.field-0.0.now c.in-Some.field-0.1.now (subst (Lacks 32) c.in-Some.ensures.some.0 lacks)
