use Rattle.shared_list_tests.proofs.entries.deleted_with.Goals as goal

pub is_clear-is_clear-requires-clause-entry : goal.is_clear-is_clear-requires-clause-entry
is_clear-is_clear-requires-clause-entry c = c.in-Some.ensures.place.1 c.args.domain.now c.requires.links

pub next_ptr-requires-clause-entry : goal.next_ptr-requires-clause-entry
next_ptr-requires-clause-entry c = c.in-Some.ensures.place.1 c.args.domain.now c.requires.links

pub push_back-requires-clause-this : goal.push_back-requires-clause-this
push_back-requires-clause-this c = c.in-Some.ensures.place.1 c.args.domain.now c.requires.links

pub delete_self-requires-clause-entry : goal.delete_self-requires-clause-entry
delete_self-requires-clause-entry c = c.in-Some.ensures.place.1 c.args.domain.now c.requires.links
