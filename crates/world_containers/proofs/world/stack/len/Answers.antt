use Rattle.sdd_world.specs.declared.tag.Tag.TheVariants as tag
use Rattle.world_containers.proofs.world.stack.len.Goals as goal

pub returns : goal.returns
returns g c = λ es h. c.count.ensures tag.None es h
