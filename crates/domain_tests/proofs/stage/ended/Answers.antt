use Rattle.domain_tests.proofs.stage.ended.Goals as goal

pub end-requires-clause-home : goal.end-requires-clause-home
end-requires-clause-home c = (c.requires c.in-Some.local c.in-Some.is).home

pub end-requires-clause-closed : goal.end-requires-clause-closed
end-requires-clause-closed c = (c.requires c.in-Some.local c.in-Some.is).closed
