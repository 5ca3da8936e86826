use Rattle.world_containers.proofs.Names.{◌∷◌, sym, subst, State, shared_cell, links, slots, Leaves, leaves_write}
use Rattle.sdd_world.specs.declared.tag.Tag.TheVariants as tag
use Rattle.sdd_world.specs.declared.status.Cell.TheVariants as cell
use Rattle.world_containers.proofs.world.stack.retire.Goals as goal

pub end-requires : goal.end-requires
end-requires g c = (tag.None, c.clear.ensures.cleared tag.None c.requires.list.entries c.requires.list.is)

pub returns-clause-leaves : goal.returns-clause-leaves
returns-clause-leaves g c = λ es h.
    let at = shared_cell c.args.stack.newest in
    let l = leaves_write (at ∷ links es) (slots es) c.args.w.now c.clear.new.w at cell.Free (λ j out. out.0) (c.clear.ensures.leaves tag.None es h) in
    subst (λ (v : State _). Leaves (at ∷ links es) (slots es) c.args.w.now v) (sym c.end.ensures.ended) l
