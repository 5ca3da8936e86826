use Rattle.std.proofs.Common.{Option, ℕ}
use Rattle.sdd_world.specs.Tokens.{ptr_slot}
use Rattle.world_containers.specs.Entries.{entry_link}
use Rattle.world_containers.specs.Nodes.{IsListed}
use Rattle.world_containers.proofs.NodeLemmas.{not_null}
use Rattle.sdd_tests.proofs.SeenLemmas.{seen_readable}
use Rattle.sdd_tests.proofs.stacks.second.Goals as goal

pub next_ptr-next-requires-after_bounds : goal.next_ptr-next-requires-after_bounds
next_ptr-next-requires-after_bounds g c κs = not_null (λ (o : Option ℕ). IsListed entry_link c.args.w.now o) (ptr_slot c.peek-first.result) c.in-Some.ensures.same c.peek-first.ensures.listed

pub read-requires-2-after_bounds : goal.read-requires-2-after_bounds
read-requires-2-after_bounds g c κs = seen_readable entry_link c.args.w.now (ptr_slot c.next_ptr-next.result) c.next_ptr-next.ensures.node
