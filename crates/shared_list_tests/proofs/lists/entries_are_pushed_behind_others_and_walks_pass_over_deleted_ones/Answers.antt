use Rattle.shared_list_tests.proofs.lists.entries_are_pushed_behind_others_and_walks_pass_over_deleted_ones.Goals as goal

pub invariant_of-list : goal.invariant_of-list
invariant_of-list g c = record { made = (c.in-Some.ensures.place.1 c.in_ok-domain.domain c.links-links.ensures.links, c.links-links.ensures.links) }
