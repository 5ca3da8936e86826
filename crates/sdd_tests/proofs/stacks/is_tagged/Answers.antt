use Rattle.std.proofs.Common.{Option, ℕ}
use Rattle.sdd_world.specs.Tokens.{ptr_slot}
use Rattle.world_containers.specs.Entries.{entry_link}
use Rattle.world_containers.specs.Nodes.{NamesSomeEntry}
use Rattle.world_containers.proofs.NodeLemmas.{not_null}
use Rattle.sdd_tests.proofs.stacks.is_tagged.Goals as goal

pub is_clear-requires-after_bounds : goal.is_clear-requires-after_bounds
is_clear-requires-after_bounds g c κs = not_null (λ (o : Option ℕ). NamesSomeEntry entry_link c.args.w.now o) (ptr_slot c.peek-first.result) c.in-Some.ensures.same c.peek-first.ensures.node

pub is_marked-requires-after_bounds : goal.is_marked-requires-after_bounds
is_marked-requires-after_bounds g c κs = not_null (λ (o : Option ℕ). NamesSomeEntry entry_link c.args.w.now o) (ptr_slot c.peek-first.result) c.in-Some.ensures.same c.peek-first.ensures.node

pub is_deleted-requires-after_bounds : goal.is_deleted-requires-after_bounds
is_deleted-requires-after_bounds g c κs = not_null (λ (o : Option ℕ). NamesSomeEntry entry_link c.args.w.now o) (ptr_slot c.peek-first.result) c.in-Some.ensures.same c.peek-first.ensures.node
