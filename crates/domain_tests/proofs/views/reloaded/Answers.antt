use Rattle.domain_tests.proofs.views.reloaded.Goals as goal

pub under-again-requires : goal.under-again-requires
under-again-requires c = c.in-Some.ensures.under c.args.guard.now c.requires.open
