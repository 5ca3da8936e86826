use Rattle.std.proofs.Common.{IfOk, ap, subst}
use Rattle.std.specs.Ordering.{nat_cmp}
use Rattle.local_index.specs.Desk.{Step}
use Rattle.index_script.specs.Script.{Script}
use Rattle.index_script.proofs.script.Script.play.Goals as goal

pub invariant_of-self : goal.invariant_of-self
invariant_of-self g c = (c.play_one.ensures.serves, c.play_one.ensures.keeps_all c.self.invariant.1)

pub returns-clause-step : goal.returns-clause-step
returns-clause-step g c =
    subst (λ (s : Script). IfOk c.play_one.result (λ reply. Step nat_cmp g.row.S s.machine c.args.call reply (record { index = c.play_one.new.index; desk = c.play_one.new.desk }))) c.self.view_is c.play_one.ensures.step

pub returns-clause-staged : goal.returns-clause-staged
returns-clause-staged g c = ap (λ (s : Script). s.staged) c.self.view_is

pub returns-clause-line : goal.returns-clause-line
returns-clause-line g c = ap (λ (s : Script). s.line) c.self.view_is
