use Rattle.std.proofs.Common.{refl, ap, ◌∙◌, List, ◌++◌, replicate, length, None}
use Rattle.std.proofs.lemmas.List.{length-replicate}
use Rattle.sdd_table.specs.declared.status.Status.{Status}
use Rattle.sdd_table.specs.declared.status.Status.TheVariants as status
use Rattle.sdd_table.proofs.SlotLemmas.{table_fresh}
use Rattle.sdd_table.proofs.table.Table.new.Goals as goal

pub invariant_of-result : goal.invariant_of-result
invariant_of-result g c =
    let n = c.args.sizes.now in
    table_fresh _ n.slots n.jobs refl refl (ap length c.in_ok-jobs.ensures ∙ length-replicate n.jobs None) c.in_ok-values.ensures (c.in_ok-idle.ensures.states ∙ ap (λ (xs : List Status). xs ++ replicate n.jobs status.Idle) c.in_ok-states.ensures.states) n.participants c.in_ok-participants.ensures (c.in_ok-idle.ensures.free _ c.in_ok-states.ensures.free) c.in_ok-states.ensures.room.1 c.in_ok-idle.ensures.idle c.in_ok-idle.ensures.room c.in_ok-cells.ensures.free c.requires
