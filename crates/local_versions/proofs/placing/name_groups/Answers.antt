use Rattle.std.proofs.Common.{ap, arith}
use Rattle.sdd_world.specs.Groups.{free_names}
use Rattle.sdd_world.specs.State.{State}
use Rattle.sdd_world.proofs.GroupLemmas.{names_grown}
use Rattle.local_versions.proofs.NamingLemmas.{names_keep, names_then, no_name}
use Rattle.local_versions.proofs.PlacingLemmas.{keeps_refl}
use Rattle.local_versions.proofs.placing.name_groups.Goals as goal

pub loop-free-init : goal.loop-free-init
loop-free-init g c = record { come = no_name c.args.w.now; keeps = keeps_refl c.args.w.now; counted = c.free_count-free.ensures }

pub loop-free-preserved : goal.loop-free-preserved
loop-free-preserved g c =
    let i = c.loop-free.invariant in
    let u = c.args.w.now in
    let v = c.loop-free.w in
    let w = c.grow.new.w in
    let is = c.in_ok-grow.ensures.grown in
    let one = names_grown v.groups in
    let names = ap (λ (x : State _). free_names x.groups) is in
    let counted = i.counted in
    record {
      come = names_then u v w i.come is;
      keeps = names_keep u v w i.come i.keeps c.in_ok-grow.ensures.keeps;
      counted = omega (arith, one, names, counted);
    }

-- where a name is refused, those before it came
pub returns-in_err-grow-clause-come : goal.returns-in_err-grow-clause-come
returns-in_err-grow-clause-come g c = rw c.in_err-grow.ensures.kept c.loop-free.invariant.come

pub returns-in_err-grow-clause-keeps : goal.returns-in_err-grow-clause-keeps
returns-in_err-grow-clause-keeps g c = rw c.in_err-grow.ensures.kept c.loop-free.invariant.keeps
