use Rattle.std.proofs.Common.{sym, subst}
use Rattle.leaf_array.specs.Pairs.{IsAscending}
use Rattle.version_views.proofs.FilterLemmas.{rising_none}
use Rattle.serial_history.proofs.base.Base.empty.Goals as goal

pub invariant_of-result : goal.invariant_of-result
invariant_of-result g c = subst (IsAscending g.K.Ord.cmp) (sym c.new.ensures.items) (rising_none g.row.V.Denot g.K.Ord.cmp)
