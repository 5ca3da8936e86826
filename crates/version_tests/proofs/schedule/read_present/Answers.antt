use Rattle.version_tests.proofs.schedule.read_present.Goals as goal

pub begin_reading-at-requires-clause-root : goal.begin_reading-at-requires-clause-root
begin_reading-at-requires-clause-root g c = c.requires.root

pub end_reading-requires-clause-reader : goal.end_reading-requires-clause-reader
end_reading-requires-clause-reader g c = c.begin_reading-at.ensures.reader

pub returns-clause-counted : goal.returns-clause-counted
returns-clause-counted g c = λ hand h. c.end_reading.ensures.counted hand (c.begin_reading-at.ensures.counted hand h)
