use Rattle.shared_list_tests.proofs.threads.push_under.Goals as goal

pub push_back-requires-clause-this : goal.push_back-requires-clause-this
push_back-requires-clause-this c = c.in-Some.ensures.place.1 c.args.domain.now c.requires.links
