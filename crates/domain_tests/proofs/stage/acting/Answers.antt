use Rattle.domain_tests.proofs.stage.acting.Goals as goal

pub returns-in-Some : goal.returns-in-Some
returns-in-Some c = let rests = c.requires c.in-Some.local c.in-Some.is in ((rests.home, rests.bare), rests.closed)
