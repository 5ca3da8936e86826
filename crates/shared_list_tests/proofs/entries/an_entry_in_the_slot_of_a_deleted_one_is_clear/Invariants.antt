use Rattle.std.proofs.Common.{◌≡◌, []}
use Rattle.sdd_domain.specs.Tokens.{own_of, hand_of, home_of, place_of}
use Rattle.shared_lists.specs.Lists.{AreLinksOf}
use Rattle.shared_list_tests.proofs.entries.an_entry_in_the_slot_of_a_deleted_one_is_clear.Given as goal

abbrev pub invariant-loop-value : goal.invariant-loop-value
invariant-loop-value g l = record { home : home_of l.local ≡ place_of l.domain; closed : (own_of l.local).nesting ≡ 0; bare : hand_of l.local ≡ []; links : AreLinksOf l.links l.domain }

abbrev pub invariant-loop-i : goal.invariant-loop-i
invariant-loop-i g l = record { home : home_of l.local ≡ place_of l.domain; closed : (own_of l.local).nesting ≡ 0; bare : hand_of l.local ≡ []; links : AreLinksOf l.links l.domain }
