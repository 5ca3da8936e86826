-- The names that most proofs of this crate cite, passed on from one place. Declares nothing.
pub use Rattle.std.proofs.Common.{Bool, Err, IfErr, IfNone, IfSome, IsErrOf, List, MatchOption, None, Ok, OnOk, OnSome, Option, Result, Some, [], ap, arith, cond, drop, false, get_or, get_or-set_other, get_or-set_same, inl, inr, leb, length, length-set, ltb, map, not, refl, replicate, reverse, set, subst, suc, sym, true, zero, ℕ, ◌&&◌, ◌++◌, ◌+◌, ◌-◌, ◌<◌, ◌==◌, ◌∙◌, ◌∷◌, ◌≡◌, ◌≢◌, ◌≤◌, ◌⊎◌}
pub use Rattle.sdd_world.specs.Tokens.{link_cell, shared_cell, shared_slot, shared_slots}
pub use Rattle.sdd_lists.specs.Chain.{AreOut, BeginsWithItem, CanHang, Entry, FitsBefore, Hangs, HasLink, IsDetached, IsItem, IsList, IsOut, Leaves, MoreOwners, OneMore, SameUses, Stays, TookFirst, deleted, end_cell, first_item, first_slot, links, skip, slots, undeleted}
pub use Rattle.sdd_lists.proofs.ChainLemmas.{Names, Starts, cell_left, free_cell_out, free_other, free_slot_out, freed_again, head_cell, hung_first, hung_left, hung_there, inside_cells, inside_states, item_left, item_shared, kept_same, kept_tag, leaves_all, leaves_more, leaves_then, leaves_write, out_of_none, shared_write, some_nothing, some_same, starts, starts_link, starts_not, stays_refl, stays_then, stays_write, the_same, used_cell, used_slot, wrote_other, wrote_same}
pub use Rattle.sdd_world.specs.State.{IsFree, IsFreeCell, NoCellFree, NoneFree, ParticipantState, State, cell_at, emptiness, in_use, is_present, local_at, nobody, participant_at, raised, retired, rotated_bags, status_at, taken, vacancy, vacated, value_at, with_cell, with_groups, with_local, with_status}
pub use Rattle.sdd_lists.specs.Entries.{entry_holds, entry_link, entry_value, entry_with_value, holds_link}
pub use Rattle.world_containers.specs.Bags.{Adds, AreApart, AreEmpty, AreFreeCells, AreOwn, AreSingle, AreSpare, CallsWith, IsBag, IsClaimed, IsNull, IsRow, IsSameBag, IsSomeBag, IsSomeRow, Puts, PutsOverflow, PutsPrimary, Removes, TakesOne, bag_cells, cell_of, freed, joined}
pub use Rattle.sdd_lists.proofs.ListHeadLemmas.{TookSome, can_hang, first_none, first_skipped, first_use, leaves_free, moved_all, moved_from, moved_leaves, moving_cell, moving_empty, new_fits, no_first, none_skipped, popped_gone, popped_leaves, popped_left, put_leaves, same_use, skipped_first, skipped_links, some_skipped, still_hung, took_nothing, took_some}
pub use Rattle.world_containers.specs.Queues.{CanFollow, Follows, HasTwo, IsQueue, cell_vacated, last_slot, newest_cell, oldest_cell}
pub use Rattle.std.proofs.lemmas.List.{append-nil, append_assoc, drop_all, drop_more, get_or-map, length-map, map-append, nil_from_length, reverse-append, set-get_or}
pub use Rattle.sdd_lists.proofs.ReleaseLemmas.{leaves_released, more_shared, out_of_one, spare_item, spare_owner, spare_state, stays_released}
pub use Rattle.sdd_world.specs.Place.{HasOneOwner, IsOpen, IsPlace, IsShared, IsSharedCell}
pub use Rattle.world_containers.specs.Stacks.{IsMade, IsNew, IsSomeStack, IsStack, stack_cell}
pub use Rattle.sdd_world.specs.declared.tag.Tag.{Tag}
pub use Rattle.sdd_world.specs.declared.cell.AtomicShared.{AtomicShared}
pub use Rattle.std.proofs.lemmas.Bool.{cases_eq, false≢true}
pub use Rattle.sdd_lists.specs.declared.linked_entry.LinkedEntry.{LinkedEntry, LinkedEntry', None', Some'}
pub use Rattle.sdd_world.specs.Steps.{NoneOpen, closings_after, count_published, disowned_as, due_reclaimed, due_reclaimed_as, given, given_all, guard_closed, guard_opened, held_in, owned_ended_as, participant_rotated, reclaimed, released, released_as, released_each, scanned, scans, shared_ended_as}
pub use Rattle.sdd_lists.proofs.WalkLemmas.{AreUsed, behind, hung_length, hung_used, length-slots, used_slots}
pub use Rattle.sdd_world.specs.declared.status.Cell.{Cell}
pub use Rattle.sdd_world.specs.declared.status.Status.{Status}
pub use Rattle.world_containers.specs.MutableIteration.{AreHung, AreOnce, Finds, Gives, IsLeft, IsSomeLeft, Revalues, Visits, revalue, revalued, walk_bag, walk_cells, walk_name, walk_place}
