use Rattle.sdd_world.specs.declared.tag.Tag.TheVariants as tag
use Rattle.world_containers.proofs.world.stack.peek_with.Goals as goal

pub f-requires : goal.f-requires
f-requires g c = c.requires.callable c.requires.list.entries c.first_undeleted.result c.requires.list.is (c.first_undeleted.ensures tag.None c.requires.list.entries c.requires.list.is)

pub returns : goal.returns
returns g c = λ es h. (c.first_undeleted.result, c.first_undeleted.ensures tag.None es h, c.f.ensures)
