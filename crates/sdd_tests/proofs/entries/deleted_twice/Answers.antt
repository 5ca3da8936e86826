use Rattle.std.proofs.Common.{refl, sym, subst}
use Rattle.sdd_world.specs.State.{State}
use Rattle.sdd_world.specs.Tokens.{ptr_slot, shared_slot}
use Rattle.sdd_world.specs.declared.tag.Tag.TheVariants as tag
use Rattle.world_containers.specs.Entries.{entry_link}
use Rattle.world_containers.specs.Nodes.{NamesSomeEntry}
use Rattle.sdd_tests.proofs.SeenLemmas.{made_named, retagged_named}
use Rattle.sdd_tests.proofs.entries.deleted_twice.Goals as goal

pub delete_again-again-requires : goal.delete_again-again-requires
delete_again-again-requires g c =
    let m = c.made-entry.ensures.made in
    let is = made_named c.args.w.now c.made-entry.new.w _ (shared_slot c.made-entry.result) (ptr_slot c.get_guarded_ptr-at.result) m c.get_guarded_ptr-at.ensures.slot in
    let now = made_named c.args.w.now c.made-entry.new.w _ (shared_slot c.made-entry.result) (ptr_slot c.get_guarded_ptr-deleted.result) m c.get_guarded_ptr-deleted.ensures.slot in
    (record m.entry { tag = tag.Second }, retagged_named entry_link c.made-entry.new.w c.delete_self.new.w tag.Second (ptr_slot c.get_guarded_ptr-deleted.result) m.entry now (c.if-not-delete_self.ensures.deleted refl m.entry is), refl)

pub is_deleted-is_deleted-requires-after_bounds : goal.is_deleted-is_deleted-requires-after_bounds
is_deleted-is_deleted-requires-after_bounds g c κs =
    let m = c.made-entry.ensures.made in
    let is = made_named c.args.w.now c.made-entry.new.w _ (shared_slot c.made-entry.result) (ptr_slot c.get_guarded_ptr-at.result) m c.get_guarded_ptr-at.ensures.slot in
    let now = made_named c.args.w.now c.made-entry.new.w _ (shared_slot c.made-entry.result) (ptr_slot c.get_guarded_ptr-still.result) m c.get_guarded_ptr-still.ensures.slot in
    let n = retagged_named entry_link c.made-entry.new.w c.delete_self.new.w tag.Second (ptr_slot c.get_guarded_ptr-still.result) m.entry now (c.if-not-delete_self.ensures.deleted refl m.entry is) in
    subst (λ (v : State _). NamesSomeEntry entry_link v (ptr_slot c.get_guarded_ptr-still.result)) (sym c.delete_again-again.ensures.kept) (record { entry = record m.entry { tag = tag.Second }; is = n })
