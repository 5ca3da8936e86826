use Rattle.sdd_world.specs.Tokens.{ptr_slot, shared_slot}
use Rattle.world_containers.proofs.InsertionLemmas.{can_insert_made}
use Rattle.sdd_tests.proofs.entries.put_behind.Goals as goal

pub push_back-requires-after_bounds : goal.push_back-requires-after_bounds
push_back-requires-after_bounds g c κs = can_insert_made c.args.w.now c.made-first.new.w c.made-second.new.w _ _ (shared_slot c.made-first.result) (shared_slot c.made-second.result) (ptr_slot c.get_guarded_ptr-at.result) c.made-first.ensures.made c.made-second.ensures.made c.made-second.ensures.leaves c.get_guarded_ptr-at.ensures.slot
