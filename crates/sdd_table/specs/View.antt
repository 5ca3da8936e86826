-- how the fields of the store show its state, and what is always true of them
use Rattle.std.specs.Prelude.{is_some, ◌≡◌, ℕ, ◌≤◌, length, map, get_or, sum_by, replicate, ◌++◌, true, false}
use Rattle.sdd_table.specs.State.{State, weight, is_used, usage, vacancy, idleness, emptiness, is_job}
pub use Rattle.sdd_table.specs.Names.{Lists, IsFreeList}
use Rattle.sdd_table.specs.declared.table.Table.TheInside.{Inside}
use Rattle.sdd_table.specs.Place.{held_times}
use Rattle.sdd_table.specs.declared.status.Status.TheVariants as status

abbrev pub state_of : {T J : Type 0} → Inside T J → State T
state_of w = record {
  count = w.count;
  values = w.values.items;
  states = w.states.items;
  cells = w.cells.items;
  participants = w.participants.all;
  groups = w.groups;
}

pub record IsTable {T J : Type 0} (w : Inside T J) : Type 0 where
  pub filled : map is_some w.values.items ≡ map is_used w.states.items
  pub tally : w.used ≡ sum_by usage w.states.items
  -- each place has a link word, and those in bags are those that wait
  pub links : w.participants.places ≡ length w.states.items
  pub held : (j : ℕ) → sum_by (held_times j) w.participants.all ≡ weight (get_or w.states.items j status.Free)
  -- a number of a place fits into 32 bits
  pub small : length w.states.items ≤ 4294967295
  -- the slots come first, then the job places
  pub kinds : map is_job w.states.items ≡ replicate w.slots false ++ replicate (length w.jobs.items) true
  pub slots : IsFreeList vacancy w.states.items w.slots w.free
  pub places : IsFreeList idleness w.states.items (length w.jobs.items) w.idle
  pub cells : IsFreeList emptiness w.cells.items (length w.cells.items) w.free_cells
