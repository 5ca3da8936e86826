use Rattle.std.proofs.Common.{◌∙◌, List, length, ap, sym, arith}
use Rattle.sdd_table.specs.Holding.{Hold}
use Rattle.sdd_table.specs.State.{State}
use Rattle.sdd_table.specs.Steps.{given_all}
use Rattle.sdd_table.specs.Tokens.{hold_of}
use Rattle.sdd_table.proofs.BagInvariantLemmas.{given_known}
use Rattle.sdd_table.proofs.reclaim.give_all.Goals as goal

pub loop-held-preserved : goal.loop-held-preserved
loop-held-preserved g c =
    let p = c.args.p in
    let table = c.loop-held.table in
    let known = ap (λ (x : State _). length x.participants) c.give.ensures ∙ given_known table p (hold_of c.in-Some.held) in
    let was = c.loop-held.invariant in (
      omega (arith, known, was.0),
      omega (arith, known, was.1),
      ap (given_all p (g.T.Holds.holds c.give_up.new.self)) c.give.ensures ∙ (ap (λ (hs : List Hold). given_all p hs table) (sym c.in-Some.ensures) ∙ was.2),
    )
