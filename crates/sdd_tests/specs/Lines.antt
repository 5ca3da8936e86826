-- stacks and queues of a place
use Rattle.sdd_world.specs.State.{State}
use Rattle.sdd_lists.specs.declared.linked_entry.LinkedEntry.{LinkedEntry}
use Rattle.world_containers.specs.Entries.{entry_link}
use Rattle.world_containers.specs.Queues.{IsSomeQueue, oldest_cell, newest_cell}
use Rattle.world_containers.specs.Stacks.{IsSomeStack, stack_cell}
use Rattle.sdd_tests.specs.declared.lines.Line.{Line}
use Rattle.sdd_tests.specs.declared.lines.Line.TheVariants as line

-- its cells hold the entries of one
abbrev pub IsSomeLine : {T : Type 0} → State (LinkedEntry T) → Line T → Type 0
IsSomeLine w (line.Stack s) = IsSomeStack w (stack_cell s)
IsSomeLine w (line.Queue q) = IsSomeQueue entry_link w (oldest_cell q) (newest_cell q)
