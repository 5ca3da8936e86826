use Rattle.std.proofs.Common.{◌∙◌, refl, sym}
use Rattle.sdd_world.specs.Tokens.{ptr_slot, shared_slot}
use Rattle.sdd_world.specs.declared.tag.Tag.TheVariants as tag
use Rattle.world_containers.specs.Entries.{entry_link}
use Rattle.world_containers.proofs.InsertionLemmas.{can_insert_made, can_insert_retagged, new_shared}
use Rattle.sdd_tests.proofs.entries.put_behind_deleted.Goals as goal

pub push_back-requires-after_bounds : goal.push_back-requires-after_bounds
push_back-requires-after_bounds g c κs =
    let k = can_insert_made c.args.w.now c.made-first.new.w c.made-second.new.w _ _ (shared_slot c.made-first.result) (shared_slot c.made-second.result) (ptr_slot c.get_guarded_ptr-at.result) c.made-first.ensures.made c.made-second.ensures.made c.made-second.ensures.leaves c.get_guarded_ptr-at.ensures.slot in
    can_insert_retagged entry_link _ _ tag.Second _ _ _ k (c.get_guarded_ptr-deleted.ensures.slot ∙ sym c.get_guarded_ptr-at.ensures.slot) (c.if-not-delete_self.ensures.deleted refl k.entry k.is) (c.if-not-delete_self.ensures.leaves k.entry k.is)

pub as_ref-requires : goal.as_ref-requires
as_ref-requires g c =
    let k = can_insert_made c.args.w.now c.made-first.new.w c.made-second.new.w _ _ (shared_slot c.made-first.result) (shared_slot c.made-second.result) (ptr_slot c.get_guarded_ptr-at.result) c.made-first.ensures.made c.made-second.ensures.made c.made-second.ensures.leaves c.get_guarded_ptr-at.ensures.slot in
    let k' = can_insert_retagged entry_link _ _ tag.Second _ _ _ k (c.get_guarded_ptr-deleted.ensures.slot ∙ sym c.get_guarded_ptr-at.ensures.slot) (c.if-not-delete_self.ensures.deleted refl k.entry k.is) (c.if-not-delete_self.ensures.leaves k.entry k.is) in
    new_shared entry_link c.delete_self.new.w c.push_back.new.w _ _ _ k' c.in-Err.ensures.back.0 c.in-Err.ensures.back.1
