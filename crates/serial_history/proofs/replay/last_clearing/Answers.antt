use Rattle.std.proofs.Common.{◌≡◌, ◌-◌, ◌<◌, ◌∙◌, List, length, refl, ap, sym, subst, arith}
use Rattle.version_views.specs.Writes.{after_writes}
use Rattle.serial_history.proofs.ReplayLemmas.{cleared_from}
use Rattle.serial_history.specs.declared.transaction.Transaction.{Transaction}
use Rattle.serial_history.proofs.replay.last_clearing.Goals as goal

pub returns-then-clears-clause-forgets : goal.returns-then-clears-clause-forgets
returns-then-clears-clause-forgets g c =
    let within : c.loop-left.left - 1 < length c.args.history.now = omega (arith, c.loop-left-test.true, c.loop-left.invariant) in
    let writes = c.as_slice.ensures ∙ ap (λ (t : Transaction _ _). t.writes) (sym c.index-history-left.is) in
    let forgets = subst (λ ws. (xs ys : List (g.row.K.Denot × g.row.V.Denot)) → after_writes g.K.Ord.cmp ws xs ≡ after_writes g.K.Ord.cmp ws ys) writes (c.if-clears.ensures refl) in
    cleared_from g.K.Ord.cmp c.args.history.now (c.loop-left.left - 1) c.index-history-left.result within c.index-history-left.is forgets
