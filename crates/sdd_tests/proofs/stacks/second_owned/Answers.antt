use Rattle.std.proofs.Common.{Option, ℕ}
use Rattle.sdd_world.specs.Tokens.{ptr_slot}
use Rattle.world_containers.specs.Entries.{entry_link}
use Rattle.world_containers.specs.Nodes.{IsListed}
use Rattle.world_containers.proofs.NodeLemmas.{not_null}
use Rattle.sdd_tests.proofs.stacks.second_owned.Goals as goal

pub next_shared-requires-after_bounds : goal.next_shared-requires-after_bounds
next_shared-requires-after_bounds g c κs = not_null (λ (o : Option ℕ). IsListed entry_link c.args.w.now o) (ptr_slot c.peek-first.result) c.in-Some.ensures.same c.peek-first.ensures.listed
