use Rattle.world_containers.proofs.Names.{◌∙◌, ap, None, State, with_cell, shared_cell, freed_again}
use Rattle.sdd_world.specs.declared.tag.Tag.TheVariants as tag
use Rattle.sdd_world.specs.declared.status.Cell.TheVariants as cell
use Rattle.world_containers.proofs.QueueLemmas.{one_cell}
use Rattle.world_containers.proofs.world.queue.new.Goals as goal

pub returns-in-Err-null-clause-refused : goal.returns-in-Err-null-clause-refused
returns-in-Err-null-clause-refused g c =
    let m = c.in-Ok.ensures.made in
    let r = c.in-Err-null.ensures.refused in
    let at = shared_cell c.in-Ok.oldest in (
      c.end.ensures.ended ∙ ap (λ (v : State _). with_cell at cell.Free v) (r.0 ∙ m.1) ∙ freed_again c.args.w.now at (cell.OfShared None tag.None) m.0.1,
      one_cell c.args.w.now c.null.new.w at tag.None m.1 r.1,
    )
