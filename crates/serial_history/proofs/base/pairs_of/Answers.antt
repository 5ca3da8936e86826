use Rattle.std.proofs.Common.{◌≡◌, subst}
use Rattle.std.specs.Prelude.{IfOk}
use Rattle.serial_history.proofs.BaseLemmas.{between_all}
use Rattle.serial_history.proofs.base.pairs_of.Goals as goal

pub returns : goal.returns
returns g c = subst (λ ps. IfOk c.copy_between.result (λ copy. copy.items ≡ ps)) (between_all g.K.Ord.cmp (g.L.OrderedView.pairs c.args.list.now)) c.copy_between.ensures
