use Rattle.std.proofs.Common.{Option, ℕ}
use Rattle.sdd_world.specs.Tokens.{ptr_slot}
use Rattle.sdd_world.specs.declared.tag.Tag.TheVariants as tag
use Rattle.world_containers.specs.Entries.{entry_link}
use Rattle.world_containers.specs.Nodes.{NamesSomeEntry}
use Rattle.world_containers.specs.Stacks.{stack_cell}
use Rattle.world_containers.proofs.NodeLemmas.{not_null, retagged_first}
use Rattle.sdd_tests.proofs.stacks.change_first.Goals as goal

pub delete_self-requires-after_bounds : goal.delete_self-requires-after_bounds
delete_self-requires-after_bounds g c κs = not_null (λ (o : Option ℕ). NamesSomeEntry entry_link c.args.w.now o) (ptr_slot c.peek-first.result) c.in-Some.ensures.same c.peek-first.ensures.node

pub mark-requires-after_bounds : goal.mark-requires-after_bounds
mark-requires-after_bounds g c κs = not_null (λ (o : Option ℕ). NamesSomeEntry entry_link c.args.w.now o) (ptr_slot c.peek-first.result) c.in-Some.ensures.same c.peek-first.ensures.node

pub unmark-requires-after_bounds : goal.unmark-requires-after_bounds
unmark-requires-after_bounds g c κs = not_null (λ (o : Option ℕ). NamesSomeEntry entry_link c.args.w.now o) (ptr_slot c.peek-first.result) c.in-Some.ensures.same c.peek-first.ensures.node

pub returns-in-Delete-clause-list : goal.returns-in-Delete-clause-list
returns-in-Delete-clause-list g c =
    let a = c.peek-first.ensures in
    let d = c.delete_self.ensures in
    let r = c.requires.list in
    let h = retagged_first entry_link c.args.w.now c.delete_self.new.w (stack_cell c.args.stack.now) tag.None tag.Second r.entries r.is (ptr_slot c.peek-first.result) (a.first r.entries r.is) a.node c.in-Some.ensures.same c.delete_self.result d.deleted d.kept in
    record { entries = h.entries; is = h.is }

pub returns-in-Mark-clause-list : goal.returns-in-Mark-clause-list
returns-in-Mark-clause-list g c =
    let a = c.peek-first.ensures in
    let d = c.mark.ensures in
    let r = c.requires.list in
    let h = retagged_first entry_link c.args.w.now c.mark.new.w (stack_cell c.args.stack.now) tag.None tag.First r.entries r.is (ptr_slot c.peek-first.result) (a.first r.entries r.is) a.node c.in-Some.ensures.same c.mark.result d.marked d.kept in
    record { entries = h.entries; is = h.is }

pub returns-in-Unmark-clause-list : goal.returns-in-Unmark-clause-list
returns-in-Unmark-clause-list g c =
    let a = c.peek-first.ensures in
    let d = c.unmark.ensures in
    let r = c.requires.list in
    let h = retagged_first entry_link c.args.w.now c.unmark.new.w (stack_cell c.args.stack.now) tag.None tag.None r.entries r.is (ptr_slot c.peek-first.result) (a.first r.entries r.is) a.node c.in-Some.ensures.same c.unmark.result d.cleared d.kept in
    record { entries = h.entries; is = h.is }
