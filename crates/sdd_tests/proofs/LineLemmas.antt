-- A stack or a queue, by what its kind says.
use Rattle.std.proofs.Common.{◌≡◌, List, sym, subst}
use Rattle.sdd_world.specs.State.{State}
use Rattle.sdd_lists.specs.declared.linked_entry.LinkedEntry.{LinkedEntry}
use Rattle.world_containers.specs.Chain.{Entry}
use Rattle.world_containers.specs.Entries.{entry_link}
use Rattle.world_containers.specs.Queues.{IsQueue, IsSomeQueue, oldest_cell, newest_cell}
use Rattle.world_containers.specs.Stacks.{IsSomeStack, IsStack, stack_cell}
use Rattle.world_containers.specs.declared.queue.Queue.{Queue}
use Rattle.world_containers.specs.declared.stack.Stack.{Stack}
use Rattle.sdd_tests.specs.Lines.{IsSomeLine}
use Rattle.sdd_tests.specs.declared.lines.Line.{Line}
use Rattle.sdd_tests.specs.declared.lines.Line.TheVariants as line

module _ {T : Type 0} (w : State (LinkedEntry T)) (l : Line T) where
  pub as_stack : (s : Stack T) → l ≡ line.Stack s → IsSomeLine w l → IsSomeStack w (stack_cell s)
  as_stack s e h = subst (λ (k : Line T). IsSomeLine w k) e h

  pub as_queue : (q : Queue T) → l ≡ line.Queue q → IsSomeLine w l → IsSomeQueue entry_link w (oldest_cell q) (newest_cell q)
  as_queue q e h = subst (λ (k : Line T). IsSomeLine w k) e h

  -- and in a place that is the same as another
  pub of_stack : (v : State (LinkedEntry T)) (s : Stack T) (es : List (Entry (LinkedEntry T))) → l ≡ line.Stack s → w ≡ v → IsStack v (stack_cell s) es → IsSomeLine w l
  of_stack v s es e same h =
      let now : IsSomeStack w (stack_cell s) = record { entries = es; is = subst (λ (u : State (LinkedEntry T)). IsStack u (stack_cell s) es) (sym same) h } in
      subst (λ (k : Line T). IsSomeLine w k) (sym e) now

  pub of_queue : (v : State (LinkedEntry T)) (q : Queue T) (es : List (Entry (LinkedEntry T))) → l ≡ line.Queue q → w ≡ v → IsQueue entry_link v (oldest_cell q) (newest_cell q) es → IsSomeLine w l
  of_queue v q es e same h =
      let now : IsSomeQueue entry_link w (oldest_cell q) (newest_cell q) = record { entries = es; is = subst (λ (u : State (LinkedEntry T)). IsQueue entry_link u (oldest_cell q) (newest_cell q) es) (sym same) h } in
      subst (λ (k : Line T). IsSomeLine w k) (sym e) now
