use Rattle.domain_table.proofs.Moves.{once}
use Rattle.sdd_domain.proofs.laws.the_count_is_raised_at_most_once.Goals as goal

pub returns : goal.returns
returns g c = λ plan s seat v e r at kind is. once _ _ plan s r seat v at kind e is
